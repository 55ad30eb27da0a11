-- How a reading goes on from one part to the next, and how a refusal ends it.
use Rattle.std.proofs.Common.{◌≡◌, ℕ, suc, ◌+◌, ◌<◌, List, [], ◌∷◌, ◌++◌, length, take, drop, get_or, Ok, Err, ap, refl, subst, sym, ◌∙◌}
use Rattle.std.proofs.Math.Seq.{drop-cons}
use Rattle.std.proofs.lemmas.List.{take-append-drop}
use Rattle.base_values.specs.Outcome.{◌>>=◌, take_each}
use Rattle.pm_tools.specs.Reading.{Reading, Refuses}
use Rattle.pm_tools.specs.declared.build_error.BuildError.{BuildError}
use Rattle.pm_tools.specs.declared.build_error.BuildError.TheVariants.{Io, NotAbsolute, OutOfMemory}

-- what refuses a part refuses the whole, where the part's refusal is that of the whole
pub refuses_on : {A B : Type 0} (e : BuildError) (part : Reading A) (whole : Reading B) → ((x : BuildError) → part ≡ Err x → whole ≡ Err x) → Refuses e part → Refuses e whole
refuses_on (Io line) part whole on h = on (Io line) h
refuses_on (NotAbsolute text) part whole on h = on (NotAbsolute text) h
refuses_on OutOfMemory part whole on h = tt

-- what refuses a reading refuses what is the same
pub refuses_same : {A : Type 0} (e : BuildError) (part whole : Reading A) → part ≡ whole → Refuses e part → Refuses e whole
refuses_same e part whole same h = subst (Refuses e) same h

-- a refused part ends the reading
pub refuses_bind : {A B : Type 0} (e : BuildError) (part : Reading A) (rest : A → Reading B) → Refuses e part → Refuses e (part >>= rest)
refuses_bind e part rest h = refuses_on e part (part >>= rest) (λ x is. ap (λ r. r >>= rest) is) h

-- the items before a place, the one at it, and those behind it
pub split_at : {X : Type 0} (all xs : List X) (x : X) (n : ℕ) → xs ≡ take n all → n < length all → x ≡ get_or all n x → xs ++ x ∷ drop (suc n) all ≡ all
split_at all xs x n so_far within here =
    ap (λ l. l ++ x ∷ drop (suc n) all) so_far ∙ ap (λ l. take n all ++ l) (sym (drop-cons all n x within ∙ ap (λ y. y ∷ drop (suc n) all) (sym here))) ∙ take-append-drop n all

module _ {S X : Type 0} (step : S → X → Reading S) where
  -- nothing is taken
  pub take_each-none : (s : S) → take_each step s [] ≡ Ok s
  unfolding take_each
  take_each-none s = refl

  -- the first items are taken, and the reading goes on with the others
  pub take_each-append : (s m : S) (xs ys : List X) → take_each step s xs ≡ Ok m → take_each step s (xs ++ ys) ≡ take_each step m ys
  unfolding take_each
  take_each-append s m [] ys is = ap (λ r. r >>= λ z. take_each step z ys) is
  take_each-append s m (x ∷ xs) ys is = by (step s x) is (λ next. take_each-append next m xs ys)
    where
      by : (r : Reading S) → (r >>= λ next. take_each step next xs) ≡ Ok m → ((next : S) → take_each step next xs ≡ Ok m → take_each step next (xs ++ ys) ≡ take_each step m ys)
          → (r >>= λ next. take_each step next (xs ++ ys)) ≡ take_each step m ys
      by (Ok next) h rest = rest next h
      by (Err e) h rest = cc

  -- one more item
  pub take_each-more : (s m n : S) (xs : List X) (x : X) → take_each step s xs ≡ Ok m → step m x ≡ Ok n → take_each step s (xs ++ x ∷ []) ≡ Ok n
  unfolding take_each
  take_each-more s m n xs x is next = take_each-append s m xs (x ∷ []) is ∙ ap (λ r. r >>= λ z. take_each step z []) next

  -- an item that is refused
  pub take_each-refused : (e : BuildError) (s m : S) (xs : List X) (x : X) (ys : List X) → take_each step s xs ≡ Ok m → Refuses e (step m x) → Refuses e (take_each step s (xs ++ x ∷ ys))
  unfolding take_each
  take_each-refused e s m xs x ys is h =
      subst (Refuses e) (sym (take_each-append s m xs (x ∷ ys) is)) (refuses_bind e (step m x) (λ next. take_each step next ys) h)

  -- an item at a place that is refused, where those before it are taken
  pub take_each-stopped : (e : BuildError) (s m : S) (all xs : List X) (x : X) (n : ℕ) → xs ≡ take n all → n < length all → x ≡ get_or all n x → take_each step s xs ≡ Ok m
      → Refuses e (step m x) → Refuses e (take_each step s all)
  take_each-stopped e s m all xs x n so_far within here is h =
      subst (λ l. Refuses e (take_each step s l)) (split_at all xs x n so_far within here) (take_each-refused e s m xs x (drop (suc n) all) is h)
