-- Lines that a call gave: none of them, all of them, a front of them, and those of one call after those of another.
use Rattle.std.proofs.Common.{◌≡◌, ◌∙◌, ℕ, List, [], ◌++◌, Option, Result, Ok, Err, ap, refl, subst, sym}
use Rattle.std.specs.Prelude.{IsErr, IsErrOf, OnErr, OnOk}
use Rattle.base_text.specs.Progress.{TakesFront, TakesFront-after, TakesFront-more, TakesFront-none, TakesFront-whole, with_lines, with_lines-next, with_lines-none}
use Rattle.pm_cargo_fetch.specs.Lines.{TakesLines}

-- all of them came
pub TakesLines-whole : {gave_up : Type 0} (old new : Option (List (List ℕ))) (lines : List (List ℕ)) → new ≡ with_lines lines old → TakesLines gave_up old new lines
TakesLines-whole old new lines all = record { all = λ _. all; front = TakesFront-whole old new lines all }

-- there are none
pub TakesLines-none : {gave_up : Type 0} (old : Option (List (List ℕ))) (lines : List (List ℕ)) → [] ≡ lines → TakesLines gave_up old old lines
TakesLines-none old lines none = TakesLines-whole old old lines (sym (with_lines-none old) ∙ ap (λ ls. with_lines ls old) none)

-- the call gave up behind a front of them
pub TakesLines-stopped : {gave_up : Type 0} {old new : Option (List (List ℕ))} {lines : List (List ℕ)} → gave_up → TakesFront old new lines → TakesLines gave_up old new lines
TakesLines-stopped stopped front = record { all = λ no. absurd (no stopped); front = front }

-- a call that gives up where another did gives its lines
pub TakesLines-if : {before now : Type 0} {old new : Option (List (List ℕ))} {lines : List (List ℕ)} → TakesLines before old new lines → (before → now) → TakesLines now old new lines
TakesLines-if taken gives_up = record { all = λ no. taken.all (λ stopped. no (gives_up stopped)); front = taken.front }

-- a call gives the lines of another whose error it returns
pub TakesLines-err : {T U E : Type 0} {error memory : E} {old new : Option (List (List ℕ))} {lines : List (List ℕ)} → TakesLines (IsErrOf {T = T} (Err error) memory) old new lines
    → TakesLines (IsErrOf {T = U} (Err error) memory) old new lines
TakesLines-err taken = TakesLines-if taken (λ stopped. cc)

-- the same lines
pub TakesLines-same : {gave_up : Type 0} {old new : Option (List (List ℕ))} {lines wanted : List (List ℕ)} → TakesLines gave_up old new lines → lines ≡ wanted → TakesLines gave_up old new wanted
TakesLines-same {gave_up} {old} {new} taken same = subst (λ ls. TakesLines gave_up old new ls) same taken

-- the first lines came, and then those of a call
pub TakesLines-after : {gave_up : Type 0} {old between new : Option (List (List ℕ))} (first : List (List ℕ)) {next : List (List ℕ)} → between ≡ with_lines first old → TakesLines gave_up between new next
    → TakesLines gave_up old new (first ++ next)
TakesLines-after {old = old} {between = between} {new = new} first {next = next} all taken = record {
  all = λ no. taken.all no ∙ ap (with_lines next) all ∙ with_lines-next old first next;
  front = TakesFront-after old between new first next all taken.front;
}

-- the call of the first lines gave up, and no more of the others came
pub TakesLines-cut : {before now : Type 0} {old new : Option (List (List ℕ))} {first : List (List ℕ)} (next : List (List ℕ)) → TakesLines before old new first → now
    → TakesLines now old new (first ++ next)
TakesLines-cut {old = old} {new = new} {first = first} next taken stopped = TakesLines-stopped stopped (TakesFront-more old new first next taken.front)

-- a call gave all of them where it returned a value, and else none
pub TakesLines-result : {T E : Type 0} (r : Result T E) (old new : Option (List (List ℕ))) (lines : List (List ℕ)) → OnOk r (new ≡ with_lines lines old) → OnErr r (new ≡ old) → TakesLines (IsErr r) old new lines
TakesLines-result (Ok x) old new lines ok err = TakesLines-whole old new lines ok
TakesLines-result (Err e) old new lines ok err = TakesLines-stopped refl (subst (λ n. TakesFront old n lines) (sym err) (TakesFront-none old lines))
