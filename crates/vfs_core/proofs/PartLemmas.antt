-- How the text of a virtual path is cut, as its functions cut it.
use Rattle.std.proofs.Common.{◌≡◌, ℕ, suc, ◌-◌, ◌+◌, ◌<◌, ◌≤◌, ◌==◌, Bool, true, false, not, ◌||◌, List, [], ◌∷◌, ◌++◌, length, get_or, take, drop, Some, None, refl, sym, ap, ◌∙◌, arith, length-append}
use Rattle.std.proofs.lemmas.Bool.{cond-true, cond-false, ne_eqb, eq-eqb, false_from_ne_true}
use Rattle.std.proofs.lemmas.Slice.Eq.{bytes_eq-Decides}
use Rattle.std.proofs.lemmas.List.Elements.{All-from_recursion}
use Rattle.std.proofs.lemmas.List.Sums.{suffix_len_is}
use Rattle.std.proofs.Math.Seq.{drop-append-add, get_or-append_right, get_or-append_seam, take-append_seam}
use Rattle.std.specs.List.{after_last, before_last, list_any, suffix_len}
use Rattle.std.specs.Prelude.{codes, bytes_eq}
use Rattle.base_text_paths.specs.FileName.{extension_of, is_dot, stem_of}
use Rattle.base_text_paths.specs.Paths.{is_slash}
use Rattle.base_text_paths.specs.Rows.{IsCutAtLast, Lacks}
use Rattle.base_text_paths.proofs.Dots.{before_at_cut as before_dot, before_lacking, extension_none, stem_whole}
use Rattle.vfs_core.specs.VirtualPath.{climb, last_name, virtual_parent, virtual_without_end_slash, without_dots}

-- texts that differ are distinguished
not_bytes : (xs ys : List ℕ) → (xs ≡ ys → ⊥) → bytes_eq xs ys ≡ false
not_bytes xs ys h = false_from_ne_true (bytes_eq xs ys) (λ e. h ((bytes_eq-Decides xs ys).0 e))

-- every byte of a text that lacks `at` is something else
not_at : (at : ℕ) (text : List ℕ) (k : ℕ) → Lacks at text → k < length text → not (get_or text k 0 == at) ≡ true
not_at at text k lacks l = ap not (All-from_recursion (λ b. (b == at) ≡ false) text lacks k 0 l)

-- what follows the last `at`, by its length
suffix_at_cut : (at : ℕ) (text front back : List ℕ) → IsCutAtLast at text front back
    → suffix_len (λ b. not (b == at)) text ≡ length text - (length front + 1)
suffix_at_cut at text front back cut =
    let whole : length text ≡ length front + (length back + 1) = omega (arith, ap length cut.parts, length-append front (at ∷ back)) in
    let seam : (n : ℕ) → n ≡ length front → get_or text n 0 ≡ at = λ n e. ap (λ k. get_or text k 0) e ∙ ap (λ s. get_or s (length front) 0) cut.parts ∙ get_or-append_seam front at back 0 in
    let behind : (k : ℕ) → length front + 1 ≤ k → k < length text → not (get_or text k 0 == at) ≡ true =
    λ k from l.
    let j : ℕ = k - length front - 1 in
    let next : k - length front ≡ suc j = omega arith in
    let read : get_or text k 0 ≡ get_or back j 0 =
    ap (λ s. get_or s k 0) cut.parts ∙ get_or-append_right front (at ∷ back) k 0 (omega arith) ∙ ap (λ n. get_or (at ∷ back) n 0) next in
    ap (λ b. not (b == at)) read ∙ not_at at back j cut.last (omega arith)
    in
    suffix_len_is (λ b. not (b == at)) text (length front + 1) 0 (omega arith) behind (λ some. ap not (eq-eqb _ at (seam (length front + 1 - 1) (omega arith))))

-- the cut, in those words
pub before_at_cut : (at : ℕ) (text front back : List ℕ) → IsCutAtLast at text front back → before_last (λ b. b == at) text ≡ front
before_at_cut at text front back cut =
    let end : length text - suffix_len (λ b. not (b == at)) text - 1 ≡ length front =
    omega (arith, suffix_at_cut at text front back cut, ap length cut.parts, length-append front (at ∷ back)) in
    ap (λ n. take n text) end ∙ ap (take (length front)) cut.parts ∙ take-append_seam front (at ∷ back)

pub after_at_cut : (at : ℕ) (text front back : List ℕ) → IsCutAtLast at text front back → after_last (λ b. b == at) text ≡ back
after_at_cut at text front back cut =
    let start : length text - suffix_len (λ b. not (b == at)) text ≡ length front + 1 =
    omega (arith, suffix_at_cut at text front back cut, ap length cut.parts, length-append front (at ∷ back)) in
    ap (λ n. drop n text) start ∙ ap (drop (length front + 1)) cut.parts ∙ drop-append-add front (at ∷ back) 1

-- without an `at` the suffix is all
suffix_lacking : (at : ℕ) (text : List ℕ) → Lacks at text → suffix_len (λ b. not (b == at)) text ≡ length text - 0
suffix_lacking at text lacks =
    suffix_len_is (λ b. not (b == at)) text 0 0 (omega arith) (λ k from l. not_at at text k lacks l) (λ some. absurd (omega arith))

after_lacking : (at : ℕ) (text : List ℕ) → Lacks at text → after_last (λ b. b == at) text ≡ text
after_lacking at text lacks =
    let start : length text - suffix_len (λ b. not (b == at)) text ≡ 0 = omega (arith, suffix_lacking at text lacks) in
    ap (λ n. drop n text) start

-- a text with an `at` has one, and one that lacks it has none
any_at : (at : ℕ) (front back : List ℕ) → list_any (λ b. b == at) (front ++ at ∷ back) ≡ true
any_at at [] back = ap (λ t. t || list_any (λ b. b == at) back) (eq-eqb at at refl)
any_at at (b ∷ front) back = or-true (b == at) (any_at at front back)
  where
    or-true : (x : Bool) {y : Bool} → y ≡ true → (x || y) ≡ true
    or-true true e = refl
    or-true false e = e

none_at : (at : ℕ) (text : List ℕ) → Lacks at text → list_any (λ b. b == at) text ≡ false
none_at at [] lacks = refl
none_at at (b ∷ text) lacks = ap (λ t. t || list_any (λ c. c == at) text) lacks.0 ∙ none_at at text lacks.1

-- a cut pops
pub virtual_parent_at_cut : (text front back : List ℕ) → IsCutAtLast 47 text front back → virtual_parent text ≡ Some front
unfolding virtual_parent
virtual_parent_at_cut text front back cut =
    let there : list_any is_slash text ≡ true = ap (list_any is_slash) cut.parts ∙ any_at 47 front back in
    cond-true _ _ _ there ∙ ap Some (before_at_cut 47 text front back cut)

pub virtual_parent_lacking : (text : List ℕ) → Lacks 47 text → virtual_parent text ≡ None
unfolding virtual_parent
virtual_parent_lacking text lacks = cond-false _ _ _ (none_at 47 text lacks)

-- the name behind a cut
pub last_name_at_cut : (text front back : List ℕ) → IsCutAtLast 47 text front back → last_name text ≡ back
unfolding last_name
last_name_at_cut text front back cut = after_at_cut 47 text front back cut

pub last_name_lacking : (text : List ℕ) → Lacks 47 text → last_name text ≡ text
unfolding last_name
last_name_lacking text lacks = after_lacking 47 text lacks

-- a name whose last dot comes first
pub named_first_dot : (name front back : List ℕ) → IsCutAtLast 46 name front back → length front ≡ 0
    → (stem_of name ≡ name) × (extension_of name ≡ None)
named_first_dot name front back cut none =
    let before : length (before_last is_dot name) ≡ 0 = ap length (before_dot name front back cut) ∙ none in
    (stem_whole name before, extension_none name before)

-- a name without a dot
pub named_no_dot : (name : List ℕ) → Lacks 46 name → (stem_of name ≡ name) × (extension_of name ≡ None)
named_no_dot name lacks = (stem_whole name (before_lacking name lacks), extension_none name (before_lacking name lacks))

-- a slash at the end
pub virtual_without_end_slash_end : (text front : List ℕ) → text ≡ front ++ 47 ∷ [] → virtual_without_end_slash text ≡ front
unfolding virtual_without_end_slash
virtual_without_end_slash_end text front e =
    let end : length text - 1 ≡ length front = omega (arith, ap length e, length-append front (47 ∷ [])) in
    let slash : get_or text (length text - 1) 0 ≡ 47 =
    ap (get_or text (length text - 1)) refl ∙ ap (λ n. get_or text n 0) end ∙ ap (λ s. get_or s (length front) 0) e ∙ get_or-append_seam front 47 [] 0 in
    cond-true _ _ _ (eq-eqb _ 47 slash) ∙ ap (λ n. take n text) end ∙ ap (take (length front)) e ∙ take-append_seam front (47 ∷ [])

pub virtual_without_end_slash_other : (text : List ℕ) → ((front : List ℕ) → text ≡ front ++ 47 ∷ [] → ⊥) → virtual_without_end_slash text ≡ text
unfolding virtual_without_end_slash
virtual_without_end_slash_other text lacks = cond-false _ _ _ (ne_eqb _ 47 (λ slash. lacks (take (length text - 1) text) (ends text slash)))
  where
    ends : (text : List ℕ) → get_or text (length text - 1) 0 ≡ 47 → text ≡ take (length text - 1) text ++ 47 ∷ []
    ends [] slash = absurd (omega (arith, slash))
    ends (b ∷ []) slash = ap (λ c. c ∷ []) slash
    ends (b ∷ c ∷ text) slash =
        let more = ends (c ∷ text) in
        let shorter : length (b ∷ c ∷ text) - 1 ≡ suc (length (c ∷ text) - 1) = omega arith in
        rw shorter (ap (λ s. b ∷ s) (more (ap (λ n. get_or (b ∷ c ∷ text) n 0) (sym shorter) ∙ slash)))

-- each leading `../` of a tail pops
pub climbed_up : (base above tail rest : List ℕ) → tail ≡ codes "../" ++ rest → virtual_parent base ≡ Some above → climb base tail ≡ climb above rest
unfolding climb
climbed_up base above tail rest e p = rw (e, p) refl

pub climbed_top : (base tail rest : List ℕ) → tail ≡ codes "../" ++ rest → virtual_parent base ≡ None → climb base tail ≡ None
unfolding climb
climbed_top base tail rest e p = rw (e, p) refl

-- three bytes that are not `../`
pub climbed_end : (base tail : List ℕ) → ((rest : List ℕ) → tail ≡ codes "../" ++ rest → ⊥) → climb base tail ≡ Some (base, tail)
unfolding climb
climbed_end base [] lacks = refl
climbed_end base (a ∷ []) lacks = refl
climbed_end base (a ∷ b ∷ []) lacks = refl
climbed_end base (a ∷ b ∷ c ∷ rest) lacks =
    cond-false _ _ _ (not_bytes (a ∷ b ∷ c ∷ []) (codes "../") (λ e. lacks rest (ap (λ s. s ++ rest) e)))

-- each leading `./` of a tail is dropped
pub dots_more : (tail rest : List ℕ) → tail ≡ codes "./" ++ rest → without_dots tail ≡ without_dots rest
unfolding without_dots
dots_more tail rest e = rw e refl

pub dots_end : (tail : List ℕ) → ((rest : List ℕ) → tail ≡ codes "./" ++ rest → ⊥) → without_dots tail ≡ tail
unfolding without_dots
dots_end [] lacks = refl
dots_end (a ∷ []) lacks = refl
dots_end (a ∷ b ∷ rest) lacks =
    cond-false _ _ _ (not_bytes (a ∷ b ∷ []) (codes "./") (λ e. lacks rest (ap (λ s. s ++ rest) e)))
