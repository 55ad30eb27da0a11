-- The cut of a name at its last dot, in the words `before_last` and `after_last`.
use Rattle.std.proofs.Common.{◌≡◌, ℕ, suc, ◌+◌, ◌-◌, ◌<◌, ◌≤◌, ◌==◌, true, false, not, List, ◌∷◌, length, get_or, take, drop, Some, None, ap, ◌∙◌, arith, length-append}
use Rattle.std.proofs.lemmas.Bool.{cond-true, cond-false, eq-eqb, le-ltb, lt-ltb}
use Rattle.std.proofs.lemmas.List.Elements.{All-from_recursion}
use Rattle.std.proofs.lemmas.List.Sums.{suffix_len_is}
use Rattle.std.proofs.Math.Seq.{drop-append-add, get_or-append_right, get_or-append_seam, take-append_seam}
use Rattle.std.specs.List.{after_last, before_last, suffix_len}
use Rattle.base_text_paths.specs.FileName.{extension_of, is_dot, stem_of}
use Rattle.base_text_paths.specs.Rows.{IsCutAtLast, Lacks}

-- every byte of a text that lacks a dot is something else
not_dot : (text : List ℕ) (k : ℕ) → Lacks 46 text → k < length text → not (is_dot (get_or text k 0)) ≡ true
not_dot text k lacks l = ap not (All-from_recursion (λ b. (b == 46) ≡ false) text lacks k 0 l)

-- what follows the last dot, by its length
suffix_at_cut : (name front back : List ℕ) → IsCutAtLast 46 name front back → suffix_len (λ b. not (is_dot b)) name ≡ length name - (length front + 1)
suffix_at_cut name front back cut =
    let whole : length name ≡ length front + (length back + 1) = omega (arith, ap length cut.parts, length-append front (46 ∷ back)) in
    let at : (n : ℕ) → n ≡ length front → get_or name n 0 ≡ 46 = λ n e. ap (λ k. get_or name k 0) e ∙ ap (λ s. get_or s (length front) 0) cut.parts ∙ get_or-append_seam front 46 back 0 in
    let behind : (k : ℕ) → length front + 1 ≤ k → k < length name → not (is_dot (get_or name k 0)) ≡ true =
    λ k from l.
    let j : ℕ = k - length front - 1 in
    let next : k - length front ≡ suc j = omega arith in
    let read : get_or name k 0 ≡ get_or back j 0 =
    ap (λ s. get_or s k 0) cut.parts ∙ get_or-append_right front (46 ∷ back) k 0 (omega arith) ∙ ap (λ n. get_or (46 ∷ back) n 0) next in
    ap (λ b. not (is_dot b)) read ∙ not_dot back j cut.last (omega arith)
    in
    suffix_len_is (λ b. not (is_dot b)) name (length front + 1) 0 (omega arith) behind (λ some. ap not (eq-eqb _ 46 (at (length front + 1 - 1) (omega arith))))

-- the cut, in those words
pub before_at_cut : (name front back : List ℕ) → IsCutAtLast 46 name front back → before_last is_dot name ≡ front
before_at_cut name front back cut =
    let end : length name - suffix_len (λ b. not (is_dot b)) name - 1 ≡ length front =
    omega (arith, suffix_at_cut name front back cut, ap length cut.parts, length-append front (46 ∷ back)) in
    ap (λ n. take n name) end ∙ ap (take (length front)) cut.parts ∙ take-append_seam front (46 ∷ back)

pub after_at_cut : (name front back : List ℕ) → IsCutAtLast 46 name front back → after_last is_dot name ≡ back
after_at_cut name front back cut =
    let start : length name - suffix_len (λ b. not (is_dot b)) name ≡ length front + 1 =
    omega (arith, suffix_at_cut name front back cut, ap length cut.parts, length-append front (46 ∷ back)) in
    ap (λ n. drop n name) start ∙ ap (drop (length front + 1)) cut.parts ∙ drop-append-add front (46 ∷ back) 1

-- with no dot nothing stands before one
pub before_lacking : (name : List ℕ) → Lacks 46 name → length (before_last is_dot name) ≡ 0
before_lacking name lacks =
    let all : suffix_len (λ b. not (is_dot b)) name ≡ length name - 0 = suffix_len_is (λ b. not (is_dot b)) name 0 0 (omega arith) (λ k from l. not_dot name k lacks l) (λ some. absurd (omega arith)) in
    let end : length name - suffix_len (λ b. not (is_dot b)) name - 1 ≡ 0 = omega (arith, all) in
    ap (λ n. length (take n name)) end

-- a cut with something before its dot is into the stem and the extension
pub stem_at_cut : (name front back : List ℕ) → IsCutAtLast 46 name front back → 0 < length front → stem_of name ≡ front
unfolding stem_of
stem_at_cut name front back cut some =
    let before = before_at_cut name front back cut in
    cond-true _ _ _ (lt-ltb 0 (length (before_last is_dot name)) (omega (arith, ap length before))) ∙ before

pub extension_at_cut : (name front back : List ℕ) → IsCutAtLast 46 name front back → 0 < length front → extension_of name ≡ Some back
unfolding extension_of
extension_at_cut name front back cut some =
    cond-true _ _ _ (lt-ltb 0 (length (before_last is_dot name)) (omega (arith, ap length (before_at_cut name front back cut)))) ∙ ap Some (after_at_cut name front back cut)

-- with nothing before its last dot a name is its own stem and has no extension
pub stem_whole : (name : List ℕ) → length (before_last is_dot name) ≡ 0 → stem_of name ≡ name
unfolding stem_of
stem_whole name none = cond-false _ _ _ (le-ltb 0 (length (before_last is_dot name)) (omega (arith, none)))

pub extension_none : (name : List ℕ) → length (before_last is_dot name) ≡ 0 → extension_of name ≡ None
unfolding extension_of
extension_none name none = cond-false _ _ _ (le-ltb 0 (length (before_last is_dot name)) (omega (arith, none)))
