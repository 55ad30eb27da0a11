-- A read of a source in memory consumes what it gives, and gives nothing at the end alone.
use Rattle.std.proofs.Common.{◌≡◌, ℕ, ◌+◌, ◌<◌, List, [], ◌++◌, length, take, drop, arith, sym, ap, ◌∙◌, take-append-drop}
use Rattle.std.proofs.lemmas.List.{drop-drop}
use Rattle.std.proofs.lemmas.Grind.{common_steps}
use Rattle.base_text_outside.specs.Source.{read_count, left_after, buffer_after}

-- the front of the buffer is the front of what was left
pub filled-front : (left buffer : List ℕ) → take (read_count left buffer) (buffer_after left buffer) ≡ take (read_count left buffer) left
filled-front left buffer = grind (arith, common_steps)

-- what is left and what the buffer got are what was left
pub filled-consumes : (left buffer : List ℕ) → left ≡ take (read_count left buffer) (buffer_after left buffer) ++ left_after left buffer
filled-consumes left buffer =
    rw (filled-front left buffer) (sym (take-append-drop (read_count left buffer) left))

-- a buffer keeps its length
pub length-filled : (left buffer : List ℕ) → length (buffer_after left buffer) ≡ length buffer
length-filled left buffer = grind (arith, common_steps)

-- no byte in a buffer with room is the end
pub left_after-end : (left buffer : List ℕ) → read_count left buffer ≡ 0 → 0 < length (buffer_after left buffer) → left_after left buffer ≡ []
left_after-end left buffer none room =
    let same = length-filled left buffer in
    grind (arith, common_steps, same)

-- a source that counts what it took of its bytes gives their next part
pub filled-read : (bytes left buffer buffer' : List ℕ) (taken n : ℕ) → left ≡ drop taken bytes → n ≡ read_count left buffer → buffer' ≡ buffer_after left buffer
    → (left ≡ take n buffer' ++ drop (taken + n) bytes) × (n ≡ 0 → 0 < length buffer' → drop (taken + n) bytes ≡ [])
filled-read bytes left buffer buffer' taken n whole count content =
    let moved : drop (taken + n) bytes ≡ left_after left buffer = ap (λ m. drop (taken + m) bytes) count ∙ sym (drop-drop (read_count left buffer) taken bytes) ∙ ap (drop (read_count left buffer)) (sym whole) in
    (rw (moved, content, count) (filled-consumes left buffer), λ none room. moved ∙ left_after-end left buffer (sym count ∙ none) (rw (← content) room))
