-- Where the entries of a table stand after one more is put in: a key keeps its place, and a new one comes last.
use Rattle.std.proofs.Common.{◌≡◌, ℕ, zero, suc, ◌+◌, ◌<◌, ◌≤◌, Bool, true, false, cond, not, nat_lt, List, [], ◌∷◌, length, position}
use Rattle.std.proofs.Common.{Some, None, if◌then◌else◌, refl, sym, ap, ◌∙◌, subst, arith}
use Rattle.std.specs.Prelude.{slice_get}
use Rattle.std.specs.List.{position_or_len}
use Rattle.std.specs.Map.{keys_of}
use Rattle.std.specs.Option.{option_map}
use Rattle.std.proofs.lemmas.Bool.Decides.{nat_tests}
use Rattle.indexmap.specs.IndexMap.{insert_entry}

-- the next number, as the first place counts
pub one_more : (n : ℕ) → 1 + n ≡ suc n
one_more n = omega arith

-- there are as many keys as entries
pub length_keys : {K V : Type 0} (es : List (K × V)) → length (keys_of es) ≡ length es
length_keys [] = refl
length_keys (e ∷ es) = ap suc (length_keys es)

-- the place of what passes first
pub place_of : {X : Type 0} (test : X → Bool) (xs : List X) (n : ℕ) → position_or_len test xs ≡ n → n < length xs
    → position test xs ≡ Some n
place_of test xs n is within =
    let here : nat_lt (position_or_len test xs) (length xs) ≡ true = grind (arith, nat_tests) in
    ap (λ b. cond b (Some (position_or_len test xs)) None) here ∙ ap Some is

-- and back
pub of_place : {X : Type 0} (test : X → Bool) (xs : List X) (n : ℕ) → position test xs ≡ Some n
    → (position_or_len test xs ≡ n) × (n < length xs)
of_place test xs n is = by (nat_lt (position_or_len test xs) (length xs)) refl is
  where
    by : (b : Bool) → nat_lt (position_or_len test xs) (length xs) ≡ b → cond b (Some (position_or_len test xs)) None ≡ Some n
        → (position_or_len test xs ≡ n) × (n < length xs)
    by false low is = cc
    by true low is =
        let at : position_or_len test xs ≡ n = cc in
        let here : position_or_len test xs < length xs = grind (arith, nat_tests) in
        (at, subst (λ m. m < length xs) at here)

-- tests that agree find one place
pub same_place : {X : Type 0} (test other : X → Bool) (xs : List X) → ((x : X) → test x ≡ other x)
    → position test xs ≡ position other xs
same_place test other xs agree = λ i. position (λ x. agree x i) xs

module _ {K V : Type 0} (eq : K → K → Bool) (k : K) (v : V) where
  -- what passes before stays where it was
  pub kept_or_len : (test : K → Bool) (es : List (K × V)) → position_or_len test (keys_of es) < length es
      → position_or_len test (keys_of (insert_entry eq es k v)) ≡ position_or_len test (keys_of es)
  kept_or_len test [] within = absurd (omega arith)
  kept_or_len test (e ∷ es) within = by (kept_or_len test es) (eq k e.0)
    where
      rest : (b : Bool) (p q : ℕ) → (p < length es → q ≡ p) → cond (not b) (1 + p) 0 < suc (length es)
          → cond (not b) (1 + q) 0 ≡ cond (not b) (1 + p) 0
      rest true p q kept within = refl
      rest false p q kept within = ap (λ n. 1 + n) (kept (omega arith))

      by : (position_or_len test (keys_of es) < length es
          → position_or_len test (keys_of (insert_entry eq es k v)) ≡ position_or_len test (keys_of es)) → (b : Bool)
          → position_or_len test (keys_of (if b then (e.0, v) ∷ es else e ∷ insert_entry eq es k v))
          ≡ position_or_len test (keys_of (e ∷ es))
      by kept true = refl
      by kept false =
          rest (test e.0) (position_or_len test (keys_of es)) (position_or_len test (keys_of (insert_entry eq es k v)))
          kept within

  -- the key stands where it stood, or behind all others
  pub put_or_len : eq k k ≡ true → (es : List (K × V))
      → position_or_len (eq k) (keys_of (insert_entry eq es k v)) ≡ position_or_len (eq k) (keys_of es)
  put_or_len same [] = ap (λ b. cond (not b) (1 + 0) 0) same
  put_or_len same (e ∷ es) = by (put_or_len same es) (eq k e.0)
    where
      by : position_or_len (eq k) (keys_of (insert_entry eq es k v)) ≡ position_or_len (eq k) (keys_of es) → (b : Bool)
          → position_or_len (eq k) (keys_of (if b then (e.0, v) ∷ es else e ∷ insert_entry eq es k v))
          ≡ position_or_len (eq k) (keys_of (e ∷ es))
      by at true = refl
      by at false = ap (λ n. cond (not (eq k e.0)) (1 + n) 0) at

  -- and is there
  pub put_within : (es : List (K × V)) → position_or_len (eq k) (keys_of es) < length (insert_entry eq es k v)
  put_within [] = omega arith
  put_within (e ∷ es) = by (put_within es) (eq k e.0)
    where
      by : position_or_len (eq k) (keys_of es) < length (insert_entry eq es k v) → (b : Bool)
          → cond (not b) (1 + position_or_len (eq k) (keys_of es)) 0
          < length (if b then (e.0, v) ∷ es else e ∷ insert_entry eq es k v)
      by within true = omega arith
      by within false = omega arith

  -- what is held at its place
  pub value_put : (es : List (K × V))
      → option_map (λ e. e.1) (slice_get (insert_entry eq es k v) (position_or_len (eq k) (keys_of es))) ≡ Some v
  value_put [] = refl
  value_put (e ∷ es) = by (value_put es) (eq k e.0)
    where
      by : option_map (λ (e : K × V). e.1) (slice_get (insert_entry eq es k v) (position_or_len (eq k) (keys_of es)))
          ≡ Some v → (b : Bool) → option_map (λ (e : K × V). e.1)
          (slice_get (if b then (e.0, v) ∷ es else e ∷ insert_entry eq es k v)
          (cond (not b) (1 + position_or_len (eq k) (keys_of es)) 0)) ≡ Some v
      by at true = refl
      by at false =
          ap (λ n. option_map (λ (e : K × V). e.1) (slice_get (e ∷ insert_entry eq es k v) n))
          (one_more (position_or_len (eq k) (keys_of es))) ∙ at

  -- what is held at any other place stays
  pub value_kept : (es : List (K × V)) (n : ℕ) → (n ≡ position_or_len (eq k) (keys_of es) → ⊥)
      → option_map (λ e. e.1) (slice_get (insert_entry eq es k v) n) ≡ option_map (λ e. e.1) (slice_get es n)
  value_kept [] zero other = absurd (other refl)
  value_kept [] (suc n) other = refl
  value_kept (e ∷ es) n other = by (value_kept es) (eq k e.0) n other
    where
      by : ((n : ℕ) → (n ≡ position_or_len (eq k) (keys_of es) → ⊥)
          → option_map (λ (e : K × V). e.1) (slice_get (insert_entry eq es k v) n)
          ≡ option_map (λ (e : K × V). e.1) (slice_get es n))
          → (b : Bool) (n : ℕ) → (n ≡ cond (not b) (1 + position_or_len (eq k) (keys_of es)) 0 → ⊥)
          → option_map (λ (e : K × V). e.1) (slice_get (if b then (e.0, v) ∷ es else e ∷ insert_entry eq es k v) n)
          ≡ option_map (λ (e : K × V). e.1) (slice_get (e ∷ es) n)
      by kept true zero other = absurd (other refl)
      by kept true (suc n) other = refl
      by kept false zero other = refl
      by kept false (suc n) other =
          kept n (λ same. other (ap suc same ∙ sym (one_more (position_or_len (eq k) (keys_of es)))))

  -- every key keeps its place
  pub key_kept : (es : List (K × V)) (n : ℕ) → n < length es
      → slice_get (keys_of (insert_entry eq es k v)) n ≡ slice_get (keys_of es) n
  key_kept [] n within = absurd (omega arith)
  key_kept (e ∷ es) n within = by (key_kept es) (eq k e.0) n within
    where
      by : ((n : ℕ) → n < length es → slice_get (keys_of (insert_entry eq es k v)) n ≡ slice_get (keys_of es) n)
          → (b : Bool) (n : ℕ) → n < suc (length es)
          → slice_get (keys_of (if b then (e.0, v) ∷ es else e ∷ insert_entry eq es k v)) n ≡ slice_get (keys_of (e ∷ es)) n
      by kept true n within = refl
      by kept false zero within = refl
      by kept false (suc n) within = kept n (omega arith)

  -- no entry is lost
  pub put_longer : (es : List (K × V)) → length es ≤ length (insert_entry eq es k v)
  put_longer [] = omega arith
  put_longer (e ∷ es) = by (put_longer es) (eq k e.0)
    where
      by : length es ≤ length (insert_entry eq es k v) → (b : Bool)
          → suc (length es) ≤ length (if b then (e.0, v) ∷ es else e ∷ insert_entry eq es k v)
      by longer true = omega arith
      by longer false = omega arith

  -- a place that was not there is that of the key
  pub put_last : (es : List (K × V)) (n : ℕ) → length es ≤ n → n < length (insert_entry eq es k v)
      → n ≡ position_or_len (eq k) (keys_of es)
  put_last [] n past within = omega arith
  put_last (e ∷ es) n past within = by (put_last es) (eq k e.0) n past within
    where
      by : ((n : ℕ) → length es ≤ n → n < length (insert_entry eq es k v) → n ≡ position_or_len (eq k) (keys_of es))
          → (b : Bool) (n : ℕ) → suc (length es) ≤ n → n < length (if b then (e.0, v) ∷ es else e ∷ insert_entry eq es k v)
          → n ≡ cond (not b) (1 + position_or_len (eq k) (keys_of es)) 0
      by last true n past within = absurd (omega arith)
      by last false zero past within = absurd (omega arith)
      by last false (suc n) past within =
          ap suc (last n (omega arith) (omega arith)) ∙ sym (one_more (position_or_len (eq k) (keys_of es)))

  -- the place of what passes stays
  pub place_kept : (test : K → Bool) (es : List (K × V)) (n : ℕ) → position test (keys_of es) ≡ Some n
      → position test (keys_of (insert_entry eq es k v)) ≡ Some n
  place_kept test es n is =
      let at = of_place test (keys_of es) n is in
      let within : n < length es = omega (arith, at.1, length_keys es) in
      place_of test (keys_of (insert_entry eq es k v)) n
      (kept_or_len test es (subst (λ m. m < length es) (sym at.0) within) ∙ at.0)
      (omega (arith, within, put_longer es, length_keys (insert_entry eq es k v)))

  -- the place of the key
  pub place_put : eq k k ≡ true → (es : List (K × V))
      → position (eq k) (keys_of (insert_entry eq es k v)) ≡ Some (position_or_len (eq k) (keys_of es))
  place_put same es =
      place_of (eq k) (keys_of (insert_entry eq es k v)) (position_or_len (eq k) (keys_of es)) (put_or_len same es)
      (omega (arith, put_within es, length_keys (insert_entry eq es k v)))
