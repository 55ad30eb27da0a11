-- The packages of a workspace with their numbers, one after another; and the directory of a target that the workspace does not have.
use Rattle.std.proofs.Common.{◌≡◌, ◌↔◌, ℕ, ◌+◌, ◌<◌, zero, suc, Bool, true, false, IsTrue, true≢false, List, [], ◌∷◌, ◌++◌, Some, None, length, map, take, get_or, refl, sym, ap, ◌∙◌, arith, append-nil, length-append}
use Rattle.std.specs.List.{enumerate_from, range_with_len, slice_get}
use Rattle.std.proofs.lemmas.List.{length-map}
use Rattle.std.proofs.lemmas.List.FromFn.{get_or-range_with_len, length-range_with_len}
use Rattle.std.proofs.lemmas.Option.{same_Some}
use Rattle.base_text_paths.specs.Arena.{number_of}
use Rattle.base_text_paths.specs.declared.arena.Idx.{Idx}
use Rattle.pm_cargo_packages.specs.declared.package.PackageData.{PackageData}
use Rattle.pm_cargo_packages.specs.declared.target.TargetTag.{TargetTag}
use Rattle.pm_cargo.specs.Workspace.{Workspace}
use Rattle.pm_lower_load.specs.Roots.{target_directory}

-- the item behind others
get_or-behind : (xs : List ℕ) (x : ℕ) (rest : List ℕ) (d : ℕ) → get_or (xs ++ x ∷ rest) (length xs) d ≡ x
get_or-behind [] x rest d = refl
get_or-behind (y ∷ ys) x rest d = get_or-behind ys x rest d

-- the next number after some of the first
next_of_range : (n : ℕ) (seen rest : List ℕ) (x : ℕ) → range_with_len 0 n ≡ seen ++ x ∷ rest → (x ≡ length seen) × (x < n)
next_of_range n seen rest x is =
    let lengths : n ≡ length (seen ++ x ∷ rest) = sym (length-range_with_len 0 n) ∙ ap length is in
    let within : length seen < n = omega (arith, lengths, length-append seen (x ∷ rest)) in
    let same : x ≡ 0 + length seen = sym (get_or-behind seen x rest 0) ∙ ap (λ xs. get_or xs (length seen) 0) (sym is) ∙ get_or-range_with_len 0 n (length seen) 0 within in
    (omega (arith, same), omega (arith, same, within))

-- the same where the numbers are those of what is gone through
pub next_number : {X : Type 0} (f : X → ℕ) (n : ℕ) (seen : List X) (rest : List ℕ) (x : ℕ) → range_with_len 0 n ≡ map f seen ++ x ∷ rest → (x ≡ length seen) × (x < n)
next_number f n seen rest x is =
    let next = next_of_range n (map f seen) rest x is in
    (next.0 ∙ length-map seen f, next.1)

module _ {X Y : Type 0} (f : ℕ × X → Y) where
  -- one more item with its number
  pub map-enumerate_more : (n : ℕ) (xs : List X) (i : ℕ) (x : X) → slice_get xs i ≡ Some x
      → map f (take (i + 1) (enumerate_from n xs)) ≡ map f (take i (enumerate_from n xs)) ++ f (n + i, x) ∷ []
  map-enumerate_more n [] i x is = cc
  map-enumerate_more n (y ∷ ys) zero x is = ap (λ z. f (n, z) ∷ []) (same_Some y x is) ∙ ap (λ k. f (k, x) ∷ []) (omega arith)
  map-enumerate_more n (y ∷ ys) (suc i) x is =
      let rest : map f (take (i + 1) (enumerate_from (n + 1) ys)) ≡ map f (take i (enumerate_from (n + 1) ys)) ++ f (n + 1 + i, x) ∷ [] =
      map-enumerate_more (n + 1) ys i x is in
      let number : n + 1 + i ≡ n + suc i = omega arith in
      let one_more : suc i + 1 ≡ suc (i + 1) = omega arith in
      ap (λ k. map f (take k (enumerate_from n (y ∷ ys)))) one_more
      ∙ ap (λ zs. f (n, y) ∷ zs) (rest ∙ ap (λ k. map f (take i (enumerate_from (n + 1) ys)) ++ f (k, x) ∷ []) number)

  -- all items with their numbers
  pub map-enumerate_all : (n : ℕ) (xs : List X) (i : ℕ) → i ≡ length xs → map f (take i (enumerate_from n xs)) ≡ map f (enumerate_from n xs)
  map-enumerate_all n [] zero is = refl
  map-enumerate_all n [] (suc i) is = absurd (omega (arith, is))
  map-enumerate_all n (y ∷ ys) zero is = absurd (omega (arith, is))
  map-enumerate_all n (y ∷ ys) (suc i) is = ap (λ zs. f (n, y) ∷ zs) (map-enumerate_all (n + 1) ys i (omega (arith, is)))

-- what is gone through is all, where nothing is left of the numbers
pub length_seen : {X : Type 0} (f : X → ℕ) (n : ℕ) (seen : List X) (rest : List ℕ) → range_with_len 0 n ≡ map f seen ++ rest → rest ≡ [] → length seen ≡ n
length_seen f n seen rest all none =
    let lengths : n ≡ length (map f seen ++ rest) = sym (length-range_with_len 0 n) ∙ ap length all in
    omega (arith, lengths, length-append (map f seen) rest, length-map seen f, ap length none)

-- one more is seen of what is gone through
pub map-seen_more : {X : Type 0} (f : X → ℕ) (seen : List X) (x : X) (rest : List ℕ) → map f seen ++ f x ∷ rest ≡ map f (seen ++ x ∷ []) ++ rest
map-seen_more f [] x rest = refl
map-seen_more f (y ∷ ys) x rest = ap (λ zs. f y ∷ zs) (map-seen_more f ys x rest)

-- what one more item with its number gives, where as many items were gone through as the number says
pub roots_more : {X Y I : Type 0} (f : ℕ × X → Y) (xs : List X) (before after : List Y) (seen : List I) (next : I) (n : ℕ) (x : X)
    → before ≡ map f (take (length seen) (enumerate_from 0 xs)) → n ≡ length seen → slice_get xs n ≡ Some x → after ≡ before ++ f (n, x) ∷ []
    → after ≡ map f (take (length (seen ++ next ∷ [])) (enumerate_from 0 xs))
roots_more f xs before after seen next n x before_is number found after_is =
    let found_at : slice_get xs (length seen) ≡ Some x = ap (λ k. slice_get xs k) (sym number) ∙ found in
    let more : map f (take (length seen + 1) (enumerate_from 0 xs)) ≡ map f (take (length seen) (enumerate_from 0 xs)) ++ f (0 + length seen, x) ∷ [] =
    map-enumerate_more f 0 xs (length seen) x found_at in
    let numbers : n ≡ 0 + length seen = omega (arith, number) in
    let lengths : length seen + 1 ≡ length (seen ++ next ∷ []) = sym (length-append seen (next ∷ [])) in
    after_is ∙ ap (λ ys. ys ++ f (n, x) ∷ []) before_is
    ∙ ap (λ k. map f (take (length seen) (enumerate_from 0 xs)) ++ f (k, x) ∷ []) numbers
    ∙ sym more ∙ ap (λ k. map f (take k (enumerate_from 0 xs))) lengths

-- the item that is past the last
slice_get-missing : {X : Type 0} (xs : List X) (i : ℕ) → (i < length xs → ⊥) → slice_get xs i ≡ None
slice_get-missing [] i past = refl
slice_get-missing (x ∷ xs) zero past = absurd (past (omega arith))
slice_get-missing (x ∷ xs) (suc i) past = slice_get-missing xs i (λ below. past (omega (arith, below)))

-- a target that the workspace does not have brings no directory
pub target_directory-none : (w : Workspace) (p : PackageData) (id : Idx TargetTag) (found : List (List ℕ)) (b : Bool)
    → IsTrue b ↔ (number_of id < length w.targets) → b ≡ false → found ≡ found ++ target_directory w p id
target_directory-none w p id found b present lacks =
    rw (slice_get-missing w.targets (number_of id) (λ below. true≢false (sym (present.1 below) ∙ lacks)), append-nil found)
