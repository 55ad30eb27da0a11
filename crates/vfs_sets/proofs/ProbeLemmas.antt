-- The set that the longest prefix among the roots gives is the place of a path.
use Rattle.std.proofs.Common.{◌≡◌, ℕ, zero, suc, ◌+◌, ◌<◌, ◌≤◌, Bool, true, false, ◌||◌, List, [], ◌∷◌, Option, Some, None}
use Rattle.std.proofs.Common.{ap, arith, cond, Contains, get_or, length, nat_eq, nat_lt, refl, subst, sym, take, true≢false, ◌∙◌, Vec}
use Rattle.std.proofs.lemmas.Bool.{and_from, and_parts, or_left, or_right}
use Rattle.std.proofs.lemmas.Bool.Decides.{nat_tests}
use Rattle.std.proofs.lemmas.Grind.{common_steps}
use Rattle.std.specs.Bool.{beq}
use Rattle.std.specs.Cmp.Lexicographic.{bytes_decides, pointwise}
use Rattle.std.specs.List.{list_any, position_from}
use Rattle.std.specs.Str.{bytes_eq}
use Rattle.vfs_core.specs.VfsPath.{PathContent}
use Rattle.vfs_sets.specs.Placement.{FitsNoRoot, IsFit, IsPlaceOf, begins_text, fits_path, place_of, placed_text}
use Rattle.base_text_outside.specs.Causes.{raised_by}
use Rattle.vfs_sets.specs.Probes.{CountsProbes, prefixes_tried, tries_down_to}
use Rattle.vfs_sets.specs.RootMaps.{HasNoPrefix, IsOfLongestPrefix, MapsRoots, is_root_of, number_by_text}
use Rattle.base_text_outside.proofs.Counts.{raised_by-most}
use Rattle.vfs_sets.proofs.FitLemmas.{at_most-split, fits_no_root, place_of_is, IsPlaceOf-one}
use Rattle.vfs_sets.proofs.PlaceLemmas.{place_within}
use Rattle.vfs_sets.proofs.TriedLemmas.{prefixes_tried-begin, prefixes_tried-each, prefixes_tried-most, prefixes_tried-within, tries_down_to-most}

-- an item that passes, where one does
any-split : (test : PathContent → Bool) (first : PathContent) (rest : List PathContent) (is_first : Bool) → test first ≡ is_first
    → (list_any test rest ≡ true → (root : PathContent) × Contains rest root × (test root ≡ true))
    → is_first || list_any test rest ≡ true → (root : PathContent) × Contains (first ∷ rest) root × (test root ≡ true)
any-split test first rest true e more some = (first, (0, omega arith, refl), e)
any-split test first rest false e more some =
    let later = more some in (later.0, (suc later.1.0, omega (arith, later.1.1), later.1.2), later.2)

any-item : (test : PathContent → Bool) (roots : List PathContent) → list_any test roots ≡ true
    → (root : PathContent) × Contains roots root × (test root ≡ true)
any-item test [] some = absurd (true≢false (sym some))
any-item test (first ∷ rest) some = any-split test first rest (test first) refl (any-item test rest) some

-- where an item passes, one does
item-any : (test : PathContent → Bool) (roots : List PathContent) (root : PathContent) (k : ℕ) → k < length roots
    → get_or roots k root ≡ root → test root ≡ true → list_any test roots ≡ true
item-any test [] root k within at passes = absurd (omega arith)
item-any test (first ∷ rest) root zero within at passes = or_left (test first) (list_any test rest) (ap test at ∙ passes)
item-any test (first ∷ rest) root (suc k) within at passes =
    or_right (test first) (list_any test rest) (item-any test rest root k (omega arith) at passes)

-- a set with a root is one of the sets
pub set-within : (sets : List (List PathContent)) (number k : ℕ) → k < length (get_or sets number []) → number < length sets
set-within [] zero k within = absurd (omega (arith, within))
set-within [] (suc number) k within = absurd (omega (arith, within))
set-within (roots ∷ sets) zero k within = omega arith
set-within (roots ∷ sets) (suc number) k within = let more = set-within sets number k within in omega (arith, more)

-- the first set that passes: it passes, and it is the least
abbrev IsFirst : (List PathContent → Bool) → ℕ → List (List PathContent) → ℕ → Type 0
IsFirst has start sets number = (k : ℕ) × (number ≡ start + k) × (k < length sets) × (has (get_or sets k []) ≡ true)

first-split : (has : List PathContent → Bool) (start : ℕ) (roots : List PathContent) (sets : List (List PathContent)) (number : ℕ)
    (is_here : Bool) → has roots ≡ is_here
    → (position_from has (start + 1) sets ≡ Some number → IsFirst has (start + 1) sets number)
    → cond is_here (Some start) (position_from has (start + 1) sets) ≡ Some number → IsFirst has start (roots ∷ sets) number
first-split has start roots sets number true e more at =
    let same : start ≡ number = cc in (0, omega (arith, same), omega arith, e)
first-split has start roots sets number false e more at =
    let later = more at in (suc later.0, omega (arith, later.1), omega (arith, later.2), later.3)

first-is : (has : List PathContent → Bool) (start : ℕ) (sets : List (List PathContent)) (number : ℕ)
    → position_from has start sets ≡ Some number → IsFirst has start sets number
first-is has start [] number at = cc
first-is has start (roots ∷ sets) number at =
    first-split has start roots sets number (has roots) refl (first-is has (start + 1) sets number) at

-- where a set passes there is a first, and it is no greater
abbrev HasFirst : (List PathContent → Bool) → ℕ → List (List PathContent) → ℕ → Type 0
HasFirst has start sets j = (number : ℕ) × (position_from has start sets ≡ Some number) × (number ≤ start + j)

least-here : (has : List PathContent → Bool) (start j : ℕ) (roots : List PathContent) (sets : List (List PathContent))
    → has roots ≡ true → HasFirst has start (roots ∷ sets) j
least-here has start j roots sets e = (start, rw e refl, omega arith)

least-split : (has : List PathContent → Bool) (start j : ℕ) (roots : List PathContent) (sets : List (List PathContent))
    (is_here : Bool) → has roots ≡ is_here → HasFirst has (start + 1) sets j
    → (number : ℕ) × (cond is_here (Some start) (position_from has (start + 1) sets) ≡ Some number) × (number ≤ start + suc j)
least-split has start j roots sets true e more = (start, refl, omega arith)
least-split has start j roots sets false e more = (more.0, more.1, omega (arith, more.2))

least-is : (has : List PathContent → Bool) (start : ℕ) (sets : List (List PathContent)) (j : ℕ) → j < length sets
    → has (get_or sets j []) ≡ true → HasFirst has start sets j
least-is has start [] j within passes = absurd (omega (arith, within))
least-is has start (roots ∷ sets) zero within passes = least-here has start 0 roots sets passes
least-is has start (roots ∷ sets) (suc j) within passes =
    least-split has start j roots sets (has roots) refl (least-is has (start + 1) sets j (omega arith) passes)

-- a root that fits is a prefix of the text by which the path is placed
abbrev IsPrefix : PathContent → PathContent → Type 0
IsPrefix root path = root.text ≡ take (length root.text) (placed_text path)

fit-prefix : (root path : PathContent) → fits_path root path ≡ true → IsPrefix root path
fit-prefix root path h =
    (bytes_decides root.text (take (length root.text) (placed_text path))).0
    (and_parts (pointwise nat_eq root.text (take (length root.text) (placed_text path))) _
    (and_parts (beq root.is_virtual path.is_virtual) (begins_text root.text (placed_text path)) h).1).0

prefix-short : (root path : PathContent) → IsPrefix root path → length root.text ≤ length (placed_text path)
prefix-short root path is =
    let short : length root.text ≡ length (take (length root.text) (placed_text path)) = ap length is in
    grind (arith, common_steps)

-- and that prefix is tried
fit-tried : (root path : PathContent) → fits_path root path ≡ true → Contains (prefixes_tried (placed_text path)) (length root.text)
fit-tried root path h =
    let is = fit-prefix root path h in
    prefixes_tried-each (placed_text path) (length root.text) (prefix-short root path is)
    (subst (λ (t : List ℕ). begins_text t (placed_text path) ≡ true) is
    (and_parts (beq root.is_virtual path.is_virtual) (begins_text root.text (placed_text path)) h).1)

-- a set with a root that fits is found at the length of the root
fit-found : (sets : List (List PathContent)) (path : PathContent) (other : ℕ) (rival : PathContent) → IsFit sets path other rival
    → HasFirst (list_any (is_root_of path.is_virtual (take (length rival.text) (placed_text path)))) 0 sets other
fit-found sets path other rival fit =
    let text = take (length rival.text) (placed_text path) in
    let same : bytes_eq text rival.text ≡ true = (bytes_decides text rival.text).1 (sym (fit-prefix rival path fit.begins)) in
    let kind : beq rival.is_virtual path.is_virtual ≡ true =
    (and_parts (beq rival.is_virtual path.is_virtual) (begins_text rival.text (placed_text path)) fit.begins).0 in
    let passes : is_root_of path.is_virtual text rival ≡ true = rw (kind, same) refl in
    least-is (list_any (is_root_of path.is_virtual text)) 0 sets other (set-within sets other fit.own.0 fit.own.1)
    (item-any (is_root_of path.is_virtual text) (get_or sets other []) rival fit.own.0 fit.own.1 fit.own.2 passes)

-- nothing is found where nothing stands
nothing : {R : Type 0} → (found : Option ℕ) (number : ℕ) → found ≡ None → found ≡ Some number → R
nothing found number none some = cc

one-number : (found : Option ℕ) (a b : ℕ) → found ≡ Some a → found ≡ Some b → a ≡ b
one-number found a b first second = cc

-- the set of the longest prefix is the place
pub probed_place : {Z : Type 0} (sets : List (List PathContent)) (path : PathContent) (entries : List (Vec ℕ Z × ℕ)) (number before now : ℕ)
    → MapsRoots path.is_virtual sets entries → (longest : IsOfLongestPrefix entries (placed_text path) number before now)
    → (place : IsPlaceOf sets path number) × (length place.root.text ≡ longest.size)
probed_place {Z} sets path entries number before now maps longest =
    let text = take longest.size (placed_text path) in
    let has = list_any (is_root_of path.is_virtual text) in
    let found : position_from has 0 sets ≡ Some number = sym (maps.each text) ∙ longest.has in
    let first = first-is has 0 sets number found in
    let set : number ≡ first.0 = omega (arith, first.1) in
    let item = any-item (is_root_of path.is_virtual text) (get_or sets first.0 []) first.3 in
    let root = item.0 in
    let kind : beq root.is_virtual path.is_virtual ≡ true = (and_parts (beq root.is_virtual path.is_virtual) (bytes_eq text root.text) item.2).0 in
    let is : text ≡ root.text = (bytes_decides text root.text).0
    (and_parts (beq root.is_virtual path.is_virtual) (bytes_eq text root.text) item.2).1 in
    let within : longest.size ≤ length (placed_text path) = prefixes_tried-within (placed_text path) longest.size longest.tried in
    let cut : length text ≡ longest.size = grind (arith, common_steps) in
    let size : length root.text ≡ longest.size = sym (ap length is) ∙ cut in
    let whole : begins_text root.text (placed_text path) ≡ true =
    subst (λ (t : List ℕ). begins_text t (placed_text path) ≡ true) is (prefixes_tried-begin (placed_text path) longest.size longest.tried) in
    let begins : fits_path root path ≡ true =
    and_from (beq root.is_virtual path.is_virtual) (begins_text root.text (placed_text path)) kind whole in (
      record {
        root = root;
        own = record { own = subst (λ n. Contains (get_or sets n []) root) (sym set) item.1; begins = begins };
        longest = λ other rival fit.
            let at = fit-found sets path other rival fit in
            let no_longer = at_most-split (length rival.text) longest.size (nat_lt longest.size (length rival.text)) refl (λ longer.
            nothing (number_by_text (take (length rival.text) (placed_text path)) entries) at.0
            (longest.none_longer (length rival.text) (fit-tried rival path fit.begins) longer)
            (maps.each (take (length rival.text) (placed_text path)) ∙ at.1)) in
            omega (arith, no_longer, size);
        least = λ other rival fit same.
            let at = fit-found sets path other rival fit in
            let one : take (length rival.text) (placed_text path) ≡ text = ap (λ n. take n (placed_text path)) (same ∙ size) in
            let again : position_from has 0 sets ≡ Some at.0 =
            subst (λ (t : List ℕ). position_from (list_any (is_root_of path.is_virtual t)) 0 sets ≡ Some at.0) one at.1 in
            let equal : number ≡ at.0 = one-number (position_from has 0 sets) number at.0 found again in
            omega (arith, equal, at.2);
      },
      size,
    )

-- where no prefix has a number, no root fits
pub probed_none : {Z : Type 0} (sets : List (List PathContent)) (path : PathContent) (entries : List (Vec ℕ Z × ℕ))
    → (before now : ℕ) → MapsRoots path.is_virtual sets entries → HasNoPrefix entries (placed_text path) before now → FitsNoRoot sets path
probed_none sets path entries before now maps none = λ other rival fit.
    let at = fit-found sets path other rival fit in
    nothing (number_by_text (take (length rival.text) (placed_text path)) entries) at.0
    (none.none (length rival.text) (fit-tried rival path fit.begins))
    (maps.each (take (length rival.text) (placed_text path)) ∙ at.1)

-- the place is the one that is computed: the same by whether a set is computed
place-split : (sets : List (List PathContent)) (path : PathContent) (number : ℕ) (is_set : Bool)
    → nat_lt (place_of sets path) (length sets) ≡ is_set → IsPlaceOf sets path number → number ≡ place_of sets path
place-split sets path number true h place =
    IsPlaceOf-one sets path number (place_of sets path) place (place_of_is sets path (grind (arith, nat_tests)))
place-split sets path number false h place =
    let within = place_within sets path in
    absurd (fits_no_root sets path (grind (arith, nat_tests)) number place.root place.own)

pub IsPlaceOf-computed : (sets : List (List PathContent)) (path : PathContent) (number : ℕ) → IsPlaceOf sets path number
    → number ≡ place_of sets path
IsPlaceOf-computed sets path number = place-split sets path number (nat_lt (place_of sets path) (length sets)) refl

none-split : (sets : List (List PathContent)) (path : PathContent) (is_set : Bool)
    → nat_lt (place_of sets path) (length sets) ≡ is_set → FitsNoRoot sets path → length sets ≡ place_of sets path
none-split sets path true h none =
    let place = place_of_is sets path (grind (arith, nat_tests)) in absurd (none (place_of sets path) place.root place.own)
none-split sets path false h none = let within = place_within sets path in grind (arith, nat_tests)

pub FitsNoRoot-computed : (sets : List (List PathContent)) (path : PathContent) → FitsNoRoot sets path
    → length sets ≡ place_of sets path
FitsNoRoot-computed sets path = none-split sets path (nat_lt (place_of sets path) (length sets)) refl

-- the probes of a path that has a place, and of one that has none
counts_found : (sets : List (List PathContent)) (path : PathContent) (number before now size : ℕ) (place : IsPlaceOf sets path number)
    → length place.root.text ≡ size → now ≡ raised_by (tries_down_to size (placed_text path)) before → CountsProbes sets path before now
counts_found sets path number before now size place same counts =
    let all = tries_down_to-most size (placed_text path) in
    record {
      found = λ other root longest.
          let up = place.longest other root longest.own in
          let down = longest.longest number place.root place.own in
          let equal : size ≡ length root.text = omega (arith, up, down, same) in
          counts ∙ ap (λ n. raised_by (tries_down_to n (placed_text path)) before) equal;
      none = λ fits_none. absurd (fits_none number place.root place.own);
      at_most =
          let most = raised_by-most (tries_down_to size (placed_text path)) before in
          omega (arith, counts, most, all);
      raises = record { steps = tries_down_to size (placed_text path); within = all; raised = counts };
    }

counts_none : (sets : List (List PathContent)) (path : PathContent) (before now : ℕ) → FitsNoRoot sets path
    → now ≡ raised_by (length (prefixes_tried (placed_text path))) before → CountsProbes sets path before now
counts_none sets path before now fits_none counts =
    let all = prefixes_tried-most (placed_text path) in
    record {
      found = λ other root longest. absurd (fits_none other root longest.own);
      none = λ again. counts;
      at_most =
          let most = raised_by-most (length (prefixes_tried (placed_text path))) before in
          omega (arith, counts, most, all);
      raises = record { steps = length (prefixes_tried (placed_text path)); within = all; raised = counts };
    }

-- what a search of the map of the path's kind gives: the place, with each probe counted
pub found_place : {Z : Type 0} (sets : List (List PathContent)) (path : PathContent) (kind : Bool) (text : List ℕ)
    → (entries : List (Vec ℕ Z × ℕ)) (number before now : ℕ) → kind ≡ path.is_virtual → text ≡ placed_text path
    → MapsRoots kind sets entries → IsOfLongestPrefix entries text number before now
    → (number ≡ place_of sets path) × CountsProbes sets path before now
found_place sets path kind text entries number before now same_kind same_text maps longest =
    let at = subst (λ (t : List ℕ). IsOfLongestPrefix entries t number before now) same_text longest in
    let probed = probed_place sets path entries number before now
    (subst (λ (k : Bool). MapsRoots k sets entries) same_kind maps) at in
    (IsPlaceOf-computed sets path number probed.0, counts_found sets path number before now at.size probed.0 probed.1 at.counts)

pub found_none : {Z : Type 0} (sets : List (List PathContent)) (path : PathContent) (kind : Bool) (text : List ℕ)
    → (entries : List (Vec ℕ Z × ℕ)) (before now : ℕ) → kind ≡ path.is_virtual → text ≡ placed_text path
    → MapsRoots kind sets entries → HasNoPrefix entries text before now
    → (length sets ≡ place_of sets path) × CountsProbes sets path before now
found_none sets path kind text entries before now same_kind same_text maps none =
    let at = subst (λ (t : List ℕ). HasNoPrefix entries t before now) same_text none in
    let fits_none = probed_none sets path entries before now (subst (λ (k : Bool). MapsRoots k sets entries) same_kind maps) at in
    (FitsNoRoot-computed sets path fits_none, counts_none sets path before now fits_none at.counts)
