-- a path without what trails it, and a text up to its last slash
use Rattle.std.proofs.Common.{◌≡◌, ℕ, suc, ◌+◌, ◌-◌, ◌<◌, ◌≤◌, ◌==◌, true, false, not, ◌&&◌, ◌||◌, eqb, ltb, List, [], ◌∷◌, ◌++◌, length, get_or, take, sym, ap, ◌∙◌, ⊎_elim, arith, eqb-true, length-append}
use Rattle.std.proofs.lemmas.Bool.{and_parts, cond-true, cond-false, eq-eqb, or_cases}
use Rattle.std.proofs.lemmas.List.Elements.{All-from_recursion}
use Rattle.std.proofs.lemmas.List.Sums.{suffix_len_is}
use Rattle.std.proofs.Math.Seq.{append_snoc, get_or-append_right, get_or-append_seam, take-append_seam}
use Rattle.std.specs.List.{suffix_len}
use Rattle.std.specs.Path.{dot, is_trailing, slash, trim_trailing, trimmed_len}
use Rattle.base_text_paths.specs.Paths.{is_slash}
use Rattle.base_text_paths.specs.Rows.{IsCutAtLast, Lacks}
use Rattle.cargo_meta.specs.Beside.{up_to_slash}

-- a trailing byte is taken off, another stays
pub trimmed_len-trailing : (path : List ℕ) (n : ℕ) → 0 < n → is_trailing path (n - 1) ≡ true → trimmed_len path n ≡ trimmed_len path (n - 1)
trimmed_len-trailing path n some e = ap (trimmed_len path) {x = n} {y = suc (n - 1)} (omega arith) ∙ cond-true _ _ _ e

pub trimmed_len-kept : (path : List ℕ) (n : ℕ) → 0 < n → is_trailing path (n - 1) ≡ false → trimmed_len path n ≡ n
trimmed_len-kept path n some e = ap (trimmed_len path) {x = n} {y = suc (n - 1)} (omega arith) ∙ cond-false _ _ _ e ∙ omega arith

-- a trailing byte is a slash or a dot
pub trailing_ascii : (path : List ℕ) (i : ℕ) → is_trailing path i ≡ true → get_or path i 0 < 128
trailing_ascii path i e =
    let b = get_or path i 0 in
    let before = eqb (get_or path (i - 1) 0) slash in
    ⊎_elim (λ is_slash. omega (arith, eqb-true b slash is_slash)) (λ is_dot. omega (arith, eqb-true b dot (and_parts (eqb b dot) before is_dot).0))
    (or_cases (eqb b slash) (eqb b dot && before) (and_parts (ltb 0 i) (eqb b slash || (eqb b dot && before)) e).1)

pub trim_trailing-is : (path : List ℕ) (n : ℕ) → trimmed_len path (length path) ≡ n → take n path ≡ trim_trailing path
unfolding trim_trailing
trim_trailing-is path n e = ap (λ k. take k path) (sym e)

-- every byte of a text that lacks a slash is something else
not_slash : (text : List ℕ) (k : ℕ) → Lacks 47 text → k < length text → not (is_slash (get_or text k 0)) ≡ true
not_slash text k lacks l = ap not (All-from_recursion (λ b. (b == 47) ≡ false) text lacks k 0 l)

-- what follows the last slash, by its length
suffix_at_cut : (text front back : List ℕ) → IsCutAtLast 47 text front back → suffix_len (λ b. not (is_slash b)) text ≡ length text - (length front + 1)
suffix_at_cut text front back cut =
    let whole : length text ≡ length front + (length back + 1) = omega (arith, ap length cut.parts, length-append front (47 ∷ back)) in
    let at : (n : ℕ) → n ≡ length front → get_or text n 0 ≡ 47 = λ n e. ap (λ k. get_or text k 0) e ∙ ap (λ s. get_or s (length front) 0) cut.parts ∙ get_or-append_seam front 47 back 0 in
    let behind : (k : ℕ) → length front + 1 ≤ k → k < length text → not (is_slash (get_or text k 0)) ≡ true =
    λ k from l.
    let j : ℕ = k - length front - 1 in
    let next : k - length front ≡ suc j = omega arith in
    let read : get_or text k 0 ≡ get_or back j 0 =
    ap (λ s. get_or s k 0) cut.parts ∙ get_or-append_right front (47 ∷ back) k 0 (omega arith) ∙ ap (λ n. get_or (47 ∷ back) n 0) next in
    ap (λ b. not (is_slash b)) read ∙ not_slash back j cut.last (omega arith)
    in
    suffix_len_is (λ b. not (is_slash b)) text (length front + 1) 0 (omega arith) behind (λ some. ap not (eq-eqb _ 47 (at (length front + 1 - 1) (omega arith))))

-- the text up to its last slash, where it is cut there, and where it has none
pub up_to_slash-cut : (text front back : List ℕ) → IsCutAtLast 47 text front back → up_to_slash text ≡ front ++ 47 ∷ []
up_to_slash-cut text front back cut =
    let end : length text - suffix_len (λ b. not (is_slash b)) text ≡ length (front ++ 47 ∷ []) =
    omega (arith, suffix_at_cut text front back cut, ap length cut.parts, length-append front (47 ∷ back), length-append front (47 ∷ [])) in
    ap (λ n. take n text) end ∙ ap (take (length (front ++ 47 ∷ []))) (cut.parts ∙ sym (append_snoc front 47 back)) ∙ take-append_seam (front ++ 47 ∷ []) back

pub up_to_slash-lacking : (text : List ℕ) → Lacks 47 text → up_to_slash text ≡ []
up_to_slash-lacking text lacks =
    let all : suffix_len (λ b. not (is_slash b)) text ≡ length text - 0 = suffix_len_is (λ b. not (is_slash b)) text 0 0 (omega arith) (λ k from l. not_slash text k lacks l) (λ some. absurd (omega arith)) in
    let end : length text - suffix_len (λ b. not (is_slash b)) text ≡ 0 = omega (arith, all) in
    ap (λ n. take n text) end
