-- The lines by which a call says how far it has come, in the order in which they come. Of a progress that
-- keeps no lines none are known.
use Rattle.std.specs.Prelude.{◌≡◌, ℕ, List, [], ◌++◌, Option, Some, None}
use Rattle.std.proofs.Common.{◌∙◌, ap, refl, sym, append_assoc, append-nil}

-- the known lines with more of them at the end
abbrev pub with_lines : List (List ℕ) → Option (List (List ℕ)) → Option (List (List ℕ))
with_lines more None = None
with_lines more (Some lines) = Some (lines ++ more)

-- some front of these lines came, and no other line
pub record TakesFront (old new : Option (List (List ℕ))) (lines : List (List ℕ)) : Type 0 where
  pub front : List (List ℕ)
  pub missing : List (List ℕ)
  pub whole : front ++ missing ≡ lines
  pub taken : new ≡ with_lines front old

-- lines and then more lines are both in a row
pub with_lines-next : (old : Option (List (List ℕ))) (first next : List (List ℕ))
    → with_lines next (with_lines first old) ≡ with_lines (first ++ next) old
with_lines-next None first next = refl
with_lines-next (Some lines) first next = ap Some (append_assoc lines first next)

-- no line changes nothing
pub with_lines-none : (old : Option (List (List ℕ))) → with_lines [] old ≡ old
with_lines-none None = refl
with_lines-none (Some lines) = ap Some (append-nil lines)

-- all of them came
pub TakesFront-whole : (old new : Option (List (List ℕ))) (lines : List (List ℕ)) → new ≡ with_lines lines old
    → TakesFront old new lines
TakesFront-whole old new lines all = record {
  front = lines;
  missing = [];
  whole = append-nil lines;
  taken = all;
}

-- none of them came
pub TakesFront-none : (old : Option (List (List ℕ))) (lines : List (List ℕ)) → TakesFront old old lines
TakesFront-none old lines = record {
  front = [];
  missing = lines;
  whole = refl;
  taken = sym (with_lines-none old);
}

-- a front of the next lines came after all of the first
pub TakesFront-after : (old between new : Option (List (List ℕ))) (first next : List (List ℕ))
    → between ≡ with_lines first old → TakesFront between new next → TakesFront old new (first ++ next)
TakesFront-after old between new first next all part = record {
  front = first ++ part.front;
  missing = part.missing;
  whole = append_assoc first part.front part.missing ∙ ap (λ l. first ++ l) part.whole;
  taken = part.taken ∙ ap (with_lines part.front) all ∙ with_lines-next old first part.front;
}

-- a front of the first lines is one of all
pub TakesFront-more : (old new : Option (List (List ℕ))) (first next : List (List ℕ))
    → TakesFront old new first → TakesFront old new (first ++ next)
TakesFront-more old new first next part = record {
  front = part.front;
  missing = part.missing ++ next;
  whole = sym (append_assoc part.front part.missing next) ∙ ap (λ l. l ++ next) part.whole;
  taken = part.taken;
}
