-- How a reading goes on from one part to the next, and how a refusal ends it.
use Rattle.std.proofs.Common.{◌≡◌, List, [], ◌∷◌, ◌++◌, map, Bool, true, false, cond, Ok, Err, ap, append_assoc, refl, subst, sym, ◌∙◌}
use Rattle.std.proofs.lemmas.List.{append-nil}
use Rattle.base_values.specs.Outcome.{◌>>=◌, take_each}
use Rattle.pm_cargo_reading.specs.Reading.{Reading, Refuses}
use Rattle.pm_cargo_reading.specs.declared.workspace_error.WorkspaceError.{WorkspaceError}
use Rattle.pm_cargo_reading.specs.declared.workspace_error.WorkspaceError.TheVariants.{NotAbsolute, NoParent, UnknownPackage, TooMany, OutOfMemory}
use Rattle.base_values.proofs.Outcomes.{ok_from_bind}

-- what refuses a part refuses the whole, where the part's refusal is that of the whole
pub refuses_on : {A B : Type 0} (e : WorkspaceError) (part : Reading A) (whole : Reading B) → ((x : WorkspaceError) → part ≡ Err x → whole ≡ Err x) → Refuses e part → Refuses e whole
refuses_on (NotAbsolute text) part whole on h = on (NotAbsolute text) h
refuses_on (NoParent text) part whole on h = on (NoParent text) h
refuses_on (UnknownPackage id) part whole on h = on (UnknownPackage id) h
refuses_on (TooMany limit) part whole on h = on (TooMany limit) h
refuses_on OutOfMemory part whole on h = tt

-- what refuses a reading refuses what is the same
pub refuses_same : {A : Type 0} (e : WorkspaceError) (part whole : Reading A) → part ≡ whole → Refuses e part → Refuses e whole
refuses_same e part whole same h = subst (Refuses e) same h

-- a refused part ends the reading
pub refuses_bind : {A B : Type 0} (e : WorkspaceError) (part : Reading A) (rest : A → Reading B) → Refuses e part → Refuses e (part >>= rest)
refuses_bind e part rest h = refuses_on e part (part >>= rest) (λ x is. ap (λ r. r >>= rest) is) h

-- and where a reading with a limit gives one, the limit is kept
pub ok_from_limit : {A : Type 0} (b : Bool) (r : Reading A) (e : WorkspaceError) (y : A) → cond b r (Err e) ≡ Ok y → (b ≡ true) × (r ≡ Ok y)
ok_from_limit true r e y is = (refl, is)
ok_from_limit false r e y is = cc

pub one_value : {A : Type 0} (x y : A) (e : Reading A) → e ≡ Ok x → e ≡ Ok y → x ≡ y
one_value x y e p q = cc

bind_same : {A B : Type 0} (r : Reading A) (f g : A → Reading B) → ((x : A) → f x ≡ g x) → (r >>= f) ≡ (r >>= g)
bind_same (Ok x) f g same = same x
bind_same (Err e) f g same = refl

module _ {S X : Type 0} (step : S → X → Reading S) where
  -- what each step keeps holds at the end
  pub take_each-keeps : (P : S → Type 0) → ((s n : S) (x : X) → P s → step s x ≡ Ok n → P n) → (s n : S) (xs : List X) → P s → take_each step s xs ≡ Ok n → P n
  unfolding take_each
  take_each-keeps P keeps s n [] h is = subst P (one_value s n (Ok s) refl is) h
  take_each-keeps P keeps s n (x ∷ xs) h is =
      let b = ok_from_bind (step s x) (λ next. take_each step next xs) n is in
      take_each-keeps P keeps b.0 n xs (keeps s b.0 x h b.1) b.2

  -- where each item adds what it is known by, the items are known by this in their order
  pub take_each-lists : {K : Type 0} (seen : S → List K) (key : X → K) → ((s n : S) (x : X) → step s x ≡ Ok n → seen n ≡ seen s ++ key x ∷ [])
      → (s n : S) (xs : List X) → take_each step s xs ≡ Ok n → seen n ≡ seen s ++ map key xs
  unfolding take_each
  take_each-lists seen key adds s n [] is = ap seen (sym (one_value s n (Ok s) refl is)) ∙ sym (append-nil (seen s))
  take_each-lists seen key adds s n (x ∷ xs) is =
      let b = ok_from_bind (step s x) (λ next. take_each step next xs) n is in
      take_each-lists seen key adds b.0 n xs b.2
      ∙ ap (λ l. l ++ map key xs) (adds s b.0 x b.1)
      ∙ append_assoc (seen s) (key x ∷ []) (map key xs)

  -- nothing is taken
  pub take_each-none : (s : S) → take_each step s [] ≡ Ok s
  unfolding take_each
  take_each-none s = refl

  -- the first items are taken, and the reading goes on with the others
  pub take_each-append : (s m : S) (xs ys : List X) → take_each step s xs ≡ Ok m → take_each step s (xs ++ ys) ≡ take_each step m ys
  unfolding take_each
  take_each-append s m [] ys is = ap (λ r. r >>= λ z. take_each step z ys) is
  take_each-append s m (x ∷ xs) ys is = by (step s x) is (λ next. take_each-append next m xs ys)
    where
      by : (r : Reading S) → (r >>= λ next. take_each step next xs) ≡ Ok m → ((next : S) → take_each step next xs ≡ Ok m → take_each step next (xs ++ ys) ≡ take_each step m ys)
          → (r >>= λ next. take_each step next (xs ++ ys)) ≡ take_each step m ys
      by (Ok next) h rest = rest next h
      by (Err e) h rest = cc

  -- steps that agree take the same
  pub take_each-same : (other : S → X → Reading S) → ((s : S) (x : X) → step s x ≡ other s x) → (s : S) (xs : List X) → take_each step s xs ≡ take_each other s xs
  unfolding take_each
  take_each-same other same s [] = refl
  take_each-same other same s (x ∷ xs) =
      ap (λ q. q >>= λ next. take_each step next xs) (same s x)
      ∙ bind_same (other s x) (λ next. take_each step next xs) (λ next. take_each other next xs) (λ next. take_each-same other same next xs)

  -- one more item
  pub take_each-more : (s m n : S) (xs : List X) (x : X) → take_each step s xs ≡ Ok m → step m x ≡ Ok n → take_each step s (xs ++ x ∷ []) ≡ Ok n
  unfolding take_each
  take_each-more s m n xs x is next = take_each-append s m xs (x ∷ []) is ∙ ap (λ r. r >>= λ z. take_each step z []) next

  -- an item that is refused
  pub take_each-refused : (e : WorkspaceError) (s m : S) (xs : List X) (x : X) (ys : List X) → take_each step s xs ≡ Ok m → Refuses e (step m x) → Refuses e (take_each step s (xs ++ x ∷ ys))
  unfolding take_each
  take_each-refused e s m xs x ys is h =
      subst (Refuses e) (sym (take_each-append s m xs (x ∷ ys) is)) (refuses_bind e (step m x) (λ next. take_each step next ys) h)

  -- an item among others that is refused
  pub take_each-stopped : (e : WorkspaceError) (s m : S) (all xs : List X) (x : X) (ys : List X) → all ≡ xs ++ x ∷ ys → take_each step s xs ≡ Ok m
      → Refuses e (step m x) → Refuses e (take_each step s all)
  take_each-stopped e s m all xs x ys parts is h =
      subst (λ l. Refuses e (take_each step s l)) (sym parts) (take_each-refused e s m xs x ys is h)
