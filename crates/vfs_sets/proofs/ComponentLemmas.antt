-- Where the components of a text end: at its end, and at both sides of each slash of it.
use Rattle.std.proofs.Common.{◌≡◌, ℕ, zero, suc, ◌+◌, ◌-◌, ◌<◌, ◌≤◌, Bool, true, false, ◌&&◌, ◌||◌, ◌==◌, List, [], ◌∷◌}
use Rattle.std.proofs.Common.{ap, arith, drop, get_or, length, nat_eq, refl, sym, take, ◌∙◌}
use Rattle.std.proofs.lemmas.Bool.{eq-eqb, ne_eqb, or_left, or_right, true≢false}
use Rattle.std.proofs.lemmas.List.{drop-take, get_or-drop, length-take-le}
use Rattle.std.specs.Cmp.{nat_eq_equiv}
use Rattle.std.specs.Cmp.Lexicographic.{nat_list_eq_equiv, pointwise}
use Rattle.std.specs.List.{ends_with, starts_with}
use Rattle.std.specs.Prelude.{codes}
use Rattle.base_text_paths.specs.Paths.{is_slash, IsAbsolute}
use Rattle.vfs_sets.specs.Placement.{begins_text}

and-true : (b : Bool) → (b && true) ≡ b
and-true true = refl
and-true false = refl

-- a text begins with a slash where its first byte is one
pub begins_with_slash : (text : List ℕ) → starts_with nat_eq text (codes "/") ≡ is_slash (get_or text 0 0)
begins_with_slash [] = refl
begins_with_slash (b ∷ text) = and-true (nat_eq 47 b) ∙ nat_eq_equiv.symm 47 b

-- and goes on with one after some bytes where the next byte is one
goes_on_with_slash : (text : List ℕ) (size : ℕ) → starts_with nat_eq (drop size text) (codes "/") ≡ is_slash (get_or text size 0)
goes_on_with_slash text size =
    begins_with_slash (drop size text)
    ∙ ap is_slash (get_or-drop size text 0 0 ∙ ap (λ n. get_or text n 0) (let same : size + 0 ≡ size = omega arith in same))

-- its first bytes end with one where the last of them is one
ends_with_slash : (text : List ℕ) (size : ℕ) → size + 1 ≤ length text
    → ends_with nat_eq (take (size + 1) text) (codes "/") ≡ is_slash (get_or text size 0)
ends_with_slash text size within =
    let cut : length (take (size + 1) text) ≡ size + 1 = length-take-le (size + 1) text within in
    let front : length (take (size + 1) text) - 1 ≡ size = omega (arith, cut) in
    ap (λ n. pointwise nat_eq (codes "/") (drop n (take (size + 1) text))) front
    ∙ ap (pointwise nat_eq (codes "/")) (drop-take size 1 text)
    ∙ goes_on_with_slash text size

-- and no bytes end with none
ends_with_none : (text : List ℕ) → ends_with nat_eq (take 0 text) (codes "/") ≡ false
ends_with_none [] = refl
ends_with_none (b ∷ text) = refl

-- whether a slash stands before a place
abbrev pub is_after_slash : List ℕ → ℕ → Bool
is_after_slash text zero = false
is_after_slash text (suc size) = is_slash (get_or text size 0)

ends_after_slash : (text : List ℕ) (size : ℕ) → size ≤ length text
    → ends_with nat_eq (take size text) (codes "/") ≡ is_after_slash text size
ends_after_slash text zero within = ends_with_none text
ends_after_slash text (suc size) within =
    let next : size + 1 ≡ suc size = omega arith in
    ap (λ n. ends_with nat_eq (take n text) (codes "/")) (sym next) ∙ ends_with_slash text size (omega (arith, within))

-- the first bytes of a text begin it by whole components where it ends with them, or a slash is next to that place
pub begins_text-is : (text : List ℕ) (size : ℕ) → size ≤ length text
    → begins_text (take size text) text
    ≡ (size == length text || is_after_slash text size || is_slash (get_or text size 0))
begins_text-is text size within =
    let cut : length (take size text) ≡ size = length-take-le size text within in
    let front : starts_with nat_eq text (take size text) ≡ true =
    ap (λ n. pointwise nat_eq (take size text) (take n text)) cut ∙ nat_list_eq_equiv.refl (take size text) in
    ap (λ (b : Bool). b && (length (take size text) == length text
    || ends_with nat_eq (take size text) (codes "/")
    || starts_with nat_eq (drop (length (take size text)) text) (codes "/"))) front
    ∙ ap (λ n. n == length text || ends_with nat_eq (take size text) (codes "/") || starts_with nat_eq (drop n text) (codes "/")) cut
    ∙ ap (λ (b : Bool). size == length text || b || starts_with nat_eq (drop size text) (codes "/")) (ends_after_slash text size within)
    ∙ ap (λ (b : Bool). size == length text || is_after_slash text size || b) (goes_on_with_slash text size)

-- so they do where the text ends, or a slash follows
pub ends_at_end : (text : List ℕ) (size : ℕ) → size ≤ length text → size ≡ length text → begins_text (take size text) text ≡ true
ends_at_end text size within end =
    begins_text-is text size within
    ∙ or_left (size == length text || is_after_slash text size) (is_slash (get_or text size 0))
    (or_left (size == length text) (is_after_slash text size) (eq-eqb size (length text) end))

pub ends_before_slash : (text : List ℕ) (size : ℕ) → size ≤ length text → is_slash (get_or text size 0) ≡ true
    → begins_text (take size text) text ≡ true
ends_before_slash text size within at =
    begins_text-is text size within
    ∙ or_right (size == length text || is_after_slash text size) (is_slash (get_or text size 0)) at

-- and elsewhere only where a slash stands before
after-only : (is_end is_after is_before : Bool) → is_end ≡ false → is_before ≡ false → (is_end || is_after || is_before) ≡ is_after
after-only true is_after is_before end before = absurd (true≢false end)
after-only false true true end before = absurd (true≢false before)
after-only false true false end before = refl
after-only false false true end before = absurd (true≢false before)
after-only false false false end before = refl

ends_elsewhere : (text : List ℕ) (size : ℕ) → size ≤ length text → (size ≡ length text → ⊥) → is_slash (get_or text size 0) ≡ false
    → begins_text (take size text) text ≡ is_after_slash text size
ends_elsewhere text size within inside at =
    begins_text-is text size within
    ∙ after-only (size == length text) (is_after_slash text size) (is_slash (get_or text size 0))
    (ne_eqb size (length text) inside) at

pub ends_after : (text : List ℕ) (size : ℕ) → size ≤ length text → (size ≡ length text → ⊥) → is_slash (get_or text size 0) ≡ false
    → 0 < size → begins_text (take size text) text ≡ is_slash (get_or text (size - 1) 0)
ends_after text zero within inside at some = absurd (omega (arith, some))
ends_after text (suc size) within inside at some =
    let same : suc size - 1 ≡ size = omega arith in
    ends_elsewhere text (suc size) within inside at ∙ sym (ap (λ n. is_slash (get_or text n 0)) same)

pub ends_at_none : (text : List ℕ) (size : ℕ) → size ≤ length text → (size ≡ length text → ⊥) → is_slash (get_or text size 0) ≡ false
    → size ≡ 0 → begins_text (take size text) text ≡ false
ends_at_none text zero within inside at none = ends_elsewhere text zero within inside at
ends_at_none text (suc size) within inside at none = absurd (omega (arith, none))

-- a root of no bytes begins each text that begins with a slash
pub begins_each : (text : List ℕ) → IsAbsolute text → begins_text [] text ≡ true
begins_each [] absolute = refl
begins_each (b ∷ text) absolute =
    or_right (length {A = ℕ} [] == length (b ∷ text) || ends_with nat_eq [] (codes "/")) (starts_with nat_eq (b ∷ text) (codes "/"))
    (begins_with_slash (b ∷ text) ∙ eq-eqb b 47 absolute)
