-- The set that is computed is the one with the longest root that fits, and the least of those.
use Rattle.std.proofs.Common.{◌≡◌, ℕ, zero, suc, ◌+◌, ◌<◌, ◌≤◌, Bool, true, false, ◌&&◌, List, [], ◌∷◌, Contains}
use Rattle.std.proofs.Common.{add-one, ap, arith, get_or, if◌then◌else◌, length, max, nat_le, nat_lt, refl, subst, sym, ◌∙◌}
use Rattle.std.proofs.lemmas.Bool.{cond-true}
use Rattle.std.proofs.lemmas.Bool.Decides.{nat_tests}
use Rattle.vfs_core.specs.VfsPath.{PathContent}
use Rattle.vfs_sets.specs.Placement.{IsPlaceOf, FitsNoRoot, fits_path, longest_reach, longest_reach_of_all, place_of, reach, takes_path}

-- the reach of a root that fits
reach-fits : (root path : PathContent) → fits_path root path ≡ true → reach root path ≡ length root.text + 1
reach-fits root path h = cond-true _ _ _ h

-- a root with a reach fits: the same by whether it does
fits-split : (long : ℕ) (is_fit : Bool) → 0 < (if is_fit then long + 1 else 0) → is_fit ≡ true
fits-split long true some = refl
fits-split long false some = absurd (omega arith)

-- no root of a set reaches further than the longest
longest_reach-bounds : (roots : List PathContent) (path root : PathContent) (k : ℕ) → k < length roots
    → get_or roots k root ≡ root → reach root path ≤ longest_reach roots path
longest_reach-bounds [] path root k within at = absurd (omega arith)
longest_reach-bounds (first ∷ roots) path root zero within at =
    let same : reach first path ≡ reach root path = ap (λ (r : PathContent). reach r path) at in
    omega (arith, same)
longest_reach-bounds (first ∷ roots) path root (suc k) within at =
    let more = longest_reach-bounds roots path root k (omega arith) at in
    omega (arith, more)

-- the greater of two numbers is one of them
max-first : (a b : ℕ) → nat_le b a ≡ true → a ≡ max a b
max-first a b h = grind (arith, nat_tests)

max-second : (a b : ℕ) → nat_le b a ≡ false → b ≡ max a b
max-second a b h = grind (arith, nat_tests)

-- a root of a set reaches furthest
abbrev HasFurthest : List PathContent → PathContent → Type 0
HasFurthest roots path = (root : PathContent) × Contains roots root × (reach root path ≡ longest_reach roots path)

-- the same by whether the first root reaches as far as the others
furthest-split : (first : PathContent) (roots : List PathContent) (path : PathContent) (is_first : Bool)
    → nat_le (longest_reach roots path) (reach first path) ≡ is_first
    → (0 < longest_reach roots path → HasFurthest roots path)
    → 0 < max (reach first path) (longest_reach roots path) → HasFurthest (first ∷ roots) path
furthest-split first roots path true h more some =
    (first, (0, omega arith, refl), max-first (reach first path) (longest_reach roots path) h)
furthest-split first roots path false h more some =
    let is = max-second (reach first path) (longest_reach roots path) h in
    let behind = more (omega (arith, is, some)) in
    (behind.0, (suc behind.1.0, omega (arith, behind.1.1), behind.1.2), behind.2 ∙ is)

furthest : (roots : List PathContent) (path : PathContent) → 0 < longest_reach roots path → HasFurthest roots path
furthest [] path some = absurd (omega arith)
furthest (first ∷ roots) path some =
    furthest-split first roots path (nat_le (longest_reach roots path) (reach first path)) refl (furthest roots path) some

-- no root of any set reaches further than the longest of all
all-bounds : (sets : List (List PathContent)) (path root : PathContent) (number : ℕ)
    → Contains (get_or sets number []) root → reach root path ≤ longest_reach_of_all sets path
all-bounds [] path root zero own = absurd (omega (arith, own.1))
all-bounds [] path root (suc number) own = absurd (omega (arith, own.1))
all-bounds (roots ∷ sets) path root zero own =
    let bound = longest_reach-bounds roots path root own.0 own.1 own.2 in
    omega (arith, bound)
all-bounds (roots ∷ sets) path root (suc number) own =
    let more = all-bounds sets path root number own in
    omega (arith, more)

-- what it says that a set takes a path, and that it does not, where a root fits
takes_says : (here behind : ℕ) → (nat_lt 0 here && nat_le behind here) ≡ true → (0 < here) × (behind ≤ here)
takes_says here behind h = (grind (arith, nat_tests), grind (arith, nat_tests))

passes_says : (here behind : ℕ) → (nat_lt 0 here && nat_le behind here) ≡ false → 0 < max here behind → here < behind
passes_says here behind h some = grind (arith, nat_tests)

-- the set that is computed, by reaches
record HasPlace (sets : List (List PathContent)) (path : PathContent) (number : ℕ) : Type 0 where
  root : PathContent
  own : Contains (get_or sets number []) root
  furthest_is : reach root path ≡ longest_reach_of_all sets path
  some : 0 < reach root path
  least : (other : ℕ) → other < number → (rival : PathContent)
      → Contains (get_or sets other []) rival → reach rival path < reach root path

-- lesser sets reach less far, with one more set before them
least-behind : (roots : List PathContent) (sets : List (List PathContent)) (path : PathContent) (number far : ℕ)
    → longest_reach roots path < far
    → ((other : ℕ) → other < number → (rival : PathContent) → Contains (get_or sets other []) rival → reach rival path < far)
    → (other : ℕ) → other < number + 1 → (rival : PathContent) → Contains (get_or (roots ∷ sets) other []) rival
    → reach rival path < far
least-behind roots sets path number far short more zero less rival own =
    let bound = longest_reach-bounds roots path rival own.0 own.1 own.2 in
    omega (arith, bound, short)
least-behind roots sets path number far short more (suc other) less rival own = more other (omega (arith, less)) rival own

-- the same by whether the first set takes the path
place-split : (roots : List PathContent) (sets : List (List PathContent)) (path : PathContent) (is_here : Bool)
    → takes_path roots sets path ≡ is_here
    → (0 < longest_reach_of_all sets path → HasPlace sets path (place_of sets path))
    → 0 < max (longest_reach roots path) (longest_reach_of_all sets path)
    → HasPlace (roots ∷ sets) path (if is_here then 0 else place_of sets path + 1)
place-split roots sets path true h more some =
    let says = takes_says (longest_reach roots path) (longest_reach_of_all sets path) h in
    let at = furthest roots path says.0 in
    let greatest : longest_reach roots path ≡ max (longest_reach roots path) (longest_reach_of_all sets path) =
    omega (arith, says.1) in
    record {
      root = at.0;
      own = at.1;
      furthest_is = at.2 ∙ greatest;
      some = omega (arith, at.2, says.0);
      least = λ other less rival own. absurd (omega (arith, less));
    }
place-split roots sets path false h more some =
    let short = passes_says (longest_reach roots path) (longest_reach_of_all sets path) h some in
    let behind = more (omega (arith, short)) in
    let greatest : longest_reach_of_all sets path ≡ max (longest_reach roots path) (longest_reach_of_all sets path) =
    omega (arith, short) in
    record {
      root = behind.root;
      own = subst (λ n. Contains (get_or (roots ∷ sets) n []) behind.root) (sym (add-one (place_of sets path))) behind.own;
      furthest_is = behind.furthest_is ∙ greatest;
      some = behind.some;
      least = least-behind roots sets path (place_of sets path) (reach behind.root path)
          (omega (arith, short, behind.furthest_is)) behind.least;
    }

place-has : (sets : List (List PathContent)) (path : PathContent) → 0 < longest_reach_of_all sets path
    → HasPlace sets path (place_of sets path)
place-has [] path some = absurd (omega arith)
place-has (roots ∷ sets) path some = place-split roots sets path (takes_path roots sets path) refl (place-has sets path) some

-- where a set is computed, a root has a reach: the same by whether the first set takes the path
some-split : (here behind place count : ℕ) (is_here : Bool) → (nat_lt 0 here && nat_le behind here) ≡ is_here
    → (place < count → 0 < behind) → (if is_here then 0 else place + 1) < count + 1 → 0 < max here behind
some-split here behind place count true h more less = let says = takes_says here behind h in omega (arith, says.0)
some-split here behind place count false h more less = let later = more (omega (arith, less)) in omega (arith, later)

place-some : (sets : List (List PathContent)) (path : PathContent) → place_of sets path < length sets
    → 0 < longest_reach_of_all sets path
place-some [] path less = absurd (omega arith)
place-some (roots ∷ sets) path less =
    some-split (longest_reach roots path) (longest_reach_of_all sets path) (place_of sets path) (length sets)
    (takes_path roots sets path) refl (place-some sets path) (omega (arith, less))

-- where none is, no root has one
none-here : (here behind : ℕ) → (nat_lt 0 here && nat_le behind here) ≡ false → behind ≡ 0 → here ≡ 0
none-here here behind h none = grind (arith, nat_tests)

none-split : (here behind place count : ℕ) (is_here : Bool) → (nat_lt 0 here && nat_le behind here) ≡ is_here
    → (place ≡ count → behind ≡ 0) → (if is_here then 0 else place + 1) ≡ count + 1 → max here behind ≡ 0
none-split here behind place count true h more last = absurd (omega (arith, last))
none-split here behind place count false h more last =
    let none = more (omega (arith, last)) in
    let here_none = none-here here behind h none in
    omega (arith, none, here_none)

place-none : (sets : List (List PathContent)) (path : PathContent) → place_of sets path ≡ length sets
    → longest_reach_of_all sets path ≡ 0
place-none [] path last = refl
place-none (roots ∷ sets) path last =
    none-split (longest_reach roots path) (longest_reach_of_all sets path) (place_of sets path) (length sets)
    (takes_path roots sets path) refl (place-none sets path) (omega (arith, last))

-- a number that no lesser one may be is the least: the same by whether the other is lesser
pub at_most-split : (number other : ℕ) (is_less : Bool) → nat_lt other number ≡ is_less → (other < number → ⊥) → number ≤ other
at_most-split number other true h no_less = absurd (no_less (grind (arith, nat_tests)))
at_most-split number other false h no_less = grind (arith, nat_tests)

-- the set that is computed is the place
pub place_of_is : (sets : List (List PathContent)) (path : PathContent) → place_of sets path < length sets
    → IsPlaceOf sets path (place_of sets path)
place_of_is sets path less =
    let has = place-has sets path (place-some sets path less) in
    let begins : fits_path has.root path ≡ true = fits-split (length has.root.text) (fits_path has.root path) has.some in
    let far = reach-fits has.root path begins in
    record {
      root = has.root;
      own = record { own = has.own; begins = begins };
      longest = λ other rival fit.
          let bound = all-bounds sets path rival other fit.own in
          let rival_far = reach-fits rival path fit.begins in
          omega (arith, bound, rival_far, far, has.furthest_is);
      least = λ other rival fit same.
          at_most-split (place_of sets path) other (nat_lt other (place_of sets path)) refl (λ lesser.
          let short = has.least other lesser rival fit.own in
          let rival_far = reach-fits rival path fit.begins in
          omega (arith, short, rival_far, far, same));
    }

-- where none is computed, no root fits
pub fits_no_root : (sets : List (List PathContent)) (path : PathContent) → place_of sets path ≡ length sets
    → FitsNoRoot sets path
fits_no_root sets path last = λ number root fit.
    let bound = all-bounds sets path root number fit.own in
    let far = reach-fits root path fit.begins in
    let none = place-none sets path last in
    omega (arith, bound, far, none)

-- there is one place at most
pub IsPlaceOf-one : (sets : List (List PathContent)) (path : PathContent) (number other : ℕ)
    → IsPlaceOf sets path number → IsPlaceOf sets path other → number ≡ other
IsPlaceOf-one sets path number other place again =
    let up = place.longest other again.root again.own in
    let down = again.longest number place.root place.own in
    let same : length again.root.text ≡ length place.root.text = omega (arith, up, down) in
    let first = place.least other again.root again.own same in
    let second = again.least number place.root place.own (sym same) in
    omega (arith, first, second)
