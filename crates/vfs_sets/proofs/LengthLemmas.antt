-- A text that is longer than every root stands beside no number.
use Rattle.std.proofs.Common.{◌≡◌, ℕ, ◌+◌, ◌<◌, Bool, true, false, ◌&&◌, ◌||◌, List, [], ◌∷◌, Some, None, Vec}
use Rattle.std.proofs.Common.{◌++◌, add-one, ap, arith, cond, get_or, length, max, refl, sym, take, take-suc, ◌∙◌}
use Rattle.std.proofs.lemmas.List.Recursion.{max_push}
use Rattle.std.specs.Bool.{beq}
use Rattle.std.specs.Cmp.Lexicographic.{bytes_decides}
use Rattle.std.specs.List.{list_any, position_from}
use Rattle.std.specs.Str.{bytes_eq}
use Rattle.vfs_core.specs.VfsPath.{PathContent}
use Rattle.vfs_sets.specs.RootMaps.{HasTextsUpTo, MapsRoots, is_root_of, longest_text, longest_text_of_all}

-- a text is not a shorter one: the same by whether they are equal
bytes-split : (text other : List ℕ) (is_same : Bool) → bytes_eq text other ≡ is_same → length other < length text
    → bytes_eq text other ≡ false
bytes-split text other true e longer =
    let same : length text ≡ length other = ap length ((bytes_decides text other).0 e) in absurd (omega (arith, longer, same))
bytes-split text other false e longer = e

-- a root of a kind and a text has that text
root-false : (of_kind has_text : Bool) → has_text ≡ false → of_kind && has_text ≡ false
root-false true has_text e = e
root-false false has_text e = refl

-- none of some roots has a longer text
no_root : (kind : Bool) (text : List ℕ) (roots : List PathContent) → longest_text roots < length text
    → list_any (is_root_of kind text) roots ≡ false
no_root kind text [] longer = refl
no_root kind text (root ∷ roots) longer =
    ap (λ (b : Bool). b || list_any (is_root_of kind text) roots)
    (root-false (beq root.is_virtual kind) (bytes_eq text root.text)
    (bytes-split text root.text (bytes_eq text root.text) refl (omega (arith, longer))))
    ∙ no_root kind text roots (omega (arith, longer))

-- and none of some sets
no_set : (kind : Bool) (text : List ℕ) (start : ℕ) (sets : List (List PathContent)) → longest_text_of_all sets < length text
    → position_from (list_any (is_root_of kind text)) start sets ≡ None
no_set kind text start [] longer = refl
no_set kind text start (roots ∷ sets) longer =
    ap (λ (b : Bool). cond b (Some start) (position_from (list_any (is_root_of kind text)) (start + 1) sets))
    (no_root kind text roots (omega (arith, longer)))
    ∙ no_set kind text (start + 1) sets (omega (arith, longer))

-- so no number stands beside a longer text
pub texts_up_to : {Z : Type 0} (kind : Bool) (sets : List (List PathContent)) (entries : List (Vec ℕ Z × ℕ)) (longest : ℕ)
    → MapsRoots kind sets entries → longest ≡ longest_text_of_all sets → HasTextsUpTo longest entries
texts_up_to kind sets entries longest maps same = λ text longer.
    maps.each text ∙ no_set kind text 0 sets (omega (arith, longer, same))

-- one item more: the longest of the items so far
pub longest_next : {X : Type 0} (longest : List X → ℕ) (size : X → ℕ) → longest [] ≡ 0
    → ((x : X) (xs : List X) → longest (x ∷ xs) ≡ max (size x) (longest xs))
    → (xs : List X) (x : X) (index before after : ℕ) → before ≡ longest (take index xs) → index < length xs
    → x ≡ get_or xs index x → after ≡ max before (size x) → after ≡ longest (take (index + 1) xs)
longest_next {X} longest size none step xs x index before after so_far inside is more =
    let cut : take (index + 1) xs ≡ take index xs ++ x ∷ [] =
    ap (λ n. take n xs) (add-one index) ∙ take-suc xs index x inside ∙ ap (λ (y : X). take index xs ++ y ∷ []) (sym is) in
    more ∙ ap (λ n. max n (size x)) so_far
    ∙ sym (ap longest cut ∙ max_push longest size none step (take index xs) x)
