-- What is asked of a workspace, one package, one target or one feature after another.
use Rattle.std.proofs.Common.{◌≡◌, ◌+◌, ◌<◌, ℕ, zero, suc, List, [], ◌∷◌, ◌++◌, Bool, true, false, ◌||◌, cond, Option, Some, None, length, map, take, get_or, refl, sym, ap, ◌∙◌, arith, length-append, String, string_bytes}
use Rattle.std.proofs.Math.Bool.{or-false}
use Rattle.std.specs.Prelude.{codes}
use Rattle.std.specs.Borrow.{Bor}
use Rattle.std.specs.List.{find, flat_map, list_any, range_with_len}
use Rattle.std.specs.Map.{keys_of}
use Rattle.std.specs.Option.{is_some}
use Rattle.std.specs.declared.alloc.Global.{Global}
use Rattle.std.proofs.lemmas.Bool.{true≢false}
use Rattle.std.proofs.lemmas.Grind.{flat_map-append}
use Rattle.std.proofs.lemmas.List.{take_more}
use Rattle.std.proofs.lemmas.List.FromFn.{get_or-range_with_len, length-range_with_len}
use Rattle.base_text_paths.specs.Paths.{components, components_with_tail}
use Rattle.base_text_paths.proofs.Parents.{root_components}
use Rattle.pm_cargo.specs.Queries.{manifests_or_root}

-- ---- numbers

-- the number that comes at a turn of the numbers below a count
pub number_of_turn : (count k id : ℕ) → k < length (range_with_len 0 count) → id ≡ get_or (range_with_len 0 count) k id → (k < count) × (id ≡ k)
number_of_turn count k id within is =
    let below : k < count = omega (arith, within, length-range_with_len 0 count) in
    (below, omega (arith, is, get_or-range_with_len 0 count k id below))

-- ---- the manifest of the root

root_manifest-components : (root : List ℕ) → components_with_tail root (codes "Cargo.toml") ≡ components root ++ codes "Cargo.toml" ∷ []
unfolding components_with_tail components
root_manifest-components root = refl

-- it lies in a directory
pub root_manifest-below : (root path : List ℕ) → components path ≡ components_with_tail root (codes "Cargo.toml") → path ≡ 47 ∷ [] → ⊥
root_manifest-below root path is at_root =
    let none : length (components path) ≡ 0 = ap length (root_components path at_root) in
    let some = ap length (is ∙ root_manifest-components root) in
    omega (arith, none, some, length-append (components root) (codes "Cargo.toml" ∷ []))

-- ---- features

-- two texts that are put into a set
pub two_more : (old first second : Bool) → cond second true (cond first true old) ≡ (old || (first || second))
two_more true true true = refl
two_more true true false = refl
two_more true false true = refl
two_more true false false = refl
two_more false true true = refl
two_more false true false = refl
two_more false false true = refl
two_more false false false = refl

-- a feature of the manifest and those that it enables, as they are gone through
abbrev pub seen_feature : Bor (String Global) × Bor (List (List ℕ)) → List ℕ × List (List ℕ)
seen_feature p = (string_bytes p.0.now, p.1.now)

or_assoc : (a b c : Bool) → ((a || b) || c) ≡ (a || (b || c))
or_assoc true b c = refl
or_assoc false b c = refl

-- one more item to test
pub any-more : {X : Type 0} (p : X → Bool) (xs : List X) (x : X) → list_any p (xs ++ x ∷ []) ≡ (list_any p xs || p x)
any-more p [] x = or-false (p x)
any-more p (y ∷ ys) x = ap (λ b. p y || b) (any-more p ys x) ∙ sym (or_assoc (p y) (list_any p ys) (p x))

-- one more feature
module _ (p : List ℕ → Bool) (next : Bor (String Global) × Bor (List (List ℕ))) where
  any_feature : (seen : List (Bor (String Global) × Bor (List (List ℕ))))
      → list_any p (keys_of (map seen_feature (seen ++ next ∷ []))) ≡ (list_any p (keys_of (map seen_feature seen)) || p (string_bytes next.0.now))
  any_feature [] = or-false (p (string_bytes next.0.now))
  any_feature (y ∷ ys) =
      ap (λ b. p (string_bytes y.0.now) || b) (any_feature ys)
      ∙ sym (or_assoc (p (string_bytes y.0.now)) (list_any p (keys_of (map seen_feature ys))) (p (string_bytes next.0.now)))

  pub any_feature-more : (seen : List (Bor (String Global) × Bor (List (List ℕ)))) (old now new : Bool)
      → now ≡ (old || list_any p (keys_of (map seen_feature seen))) → new ≡ (now || p (string_bytes next.0.now))
      → new ≡ (old || list_any p (keys_of (map seen_feature (seen ++ next ∷ []))))
  any_feature-more seen old now new is are =
      are ∙ ap (λ b. b || p (string_bytes next.0.now)) is
      ∙ or_assoc old (list_any p (keys_of (map seen_feature seen))) (p (string_bytes next.0.now))
      ∙ ap (λ b. old || b) (sym (any_feature seen))

-- ---- the first that passes a test

module _ {X : Type 0} (p : X → Bool) where
  -- what the first part has not, the other may have
  find-past : (xs ys : List X) → find p xs ≡ None → find p (xs ++ ys) ≡ find p ys
  find-past [] ys none = refl
  find-past (x ∷ xs) ys none = by (p x) none (find-past xs ys)
    where
      by : (b : Bool) → cond b (Some x) (find p xs) ≡ None → (find p xs ≡ None → find p (xs ++ ys) ≡ find p ys) → cond b (Some x) (find p (xs ++ ys)) ≡ find p ys
      by true e rest = cc
      by false e rest = rest e

  find-here : (xs ys : List X) (x : X) → find p xs ≡ Some x → find p (xs ++ ys) ≡ Some x
  find-here [] ys x is = cc
  find-here (y ∷ xs) ys x is = by (p y) is (find-here xs ys x)
    where
      by : (b : Bool) → cond b (Some y) (find p xs) ≡ Some x → (find p xs ≡ Some x → find p (xs ++ ys) ≡ Some x) → cond b (Some y) (find p (xs ++ ys)) ≡ Some x
      by true e rest = e
      by false e rest = rest e

  find-front : (xs ys : List X) → find p (xs ++ ys) ≡ None → (find p xs ≡ None) × (find p ys ≡ None)
  find-front [] ys none = (refl, none)
  find-front (x ∷ xs) ys none = by (p x) none (find-front xs ys)
    where
      by : (b : Bool) → cond b (Some x) (find p (xs ++ ys)) ≡ None → (find p (xs ++ ys) ≡ None → (find p xs ≡ None) × (find p ys ≡ None)) → (cond b (Some x) (find p xs) ≡ None) × (find p ys ≡ None)
      by true e rest = cc
      by false e rest = rest e

  module _ {Y : Type 0} (f : Y → List X) where
    -- the first of what all give is the first of what one gives, where those before it have none
    pub found-first : (ys : List Y) (i : ℕ) (y : Y) (o : Option X) → i < length ys → y ≡ get_or ys i y → find p (flat_map f (take i ys)) ≡ None
        → o ≡ find p (f y) → is_some o ≡ true → o ≡ find p (flat_map f ys)
    found-first [] i y o within is none found some = absurd (omega arith)
    found-first (z ∷ zs) zero y (Some x) within is none found some =
        sym (find-here (f z) (flat_map f zs) x (ap (λ w. find p (f w)) (sym is) ∙ sym found))
    found-first (z ∷ zs) zero y None within is none found some = absurd (true≢false (sym some))
    found-first (z ∷ zs) (suc i) y o within is none found some =
        let front = find-front (f z) (flat_map f (take i zs)) none in
        found-first zs i y o (omega arith) is front.1 found some ∙ sym (find-past (f z) (flat_map f zs) front.0)

    -- one more gives none
    pub found-none : (ys : List Y) (i : ℕ) (y : Y) → i < length ys → y ≡ get_or ys i y → find p (flat_map f (take i ys)) ≡ None
        → find p (f y) ≡ None → find p (flat_map f (take (i + 1) ys)) ≡ None
    found-none ys i y within is before none =
        ap (λ l. find p (flat_map f l)) (take_more ys i y within ∙ ap (λ z. take i ys ++ z ∷ []) (sym is))
        ∙ ap (find p) (flat_map-append f (take i ys) (y ∷ []))
        ∙ find-past (flat_map f (take i ys)) (f y ++ []) before
        ∙ find-past (f y) [] none

-- ---- manifests

pub manifests-found : (is_known : Bool) (root : List ℕ) (found : List (List ℕ)) → (found ≡ [] → ⊥) → Some found ≡ manifests_or_root is_known root found
manifests-found is_known root [] some = absurd (some refl)
manifests-found is_known root (first ∷ others) some = refl

pub manifests-none : (is_known : Bool) (root : List ℕ) (found : List (List ℕ)) → found ≡ [] → is_known ≡ false → None ≡ manifests_or_root is_known root found
manifests-none is_known root [] none unknown = ap (λ b. cond b (Some (root ∷ [])) None) (sym unknown)
manifests-none is_known root (first ∷ others) none unknown = cc

pub manifests-root : (is_known : Bool) (root : List ℕ) (found : List (List ℕ)) → found ≡ [] → is_known ≡ true → Some (root ∷ []) ≡ manifests_or_root is_known root found
manifests-root is_known root [] none known = ap (λ b. cond b (Some (root ∷ [])) None) (sym known)
manifests-root is_known root (first ∷ others) none known = cc
