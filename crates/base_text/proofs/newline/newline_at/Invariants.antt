use Rattle.std.proofs.Common.{◌≡◌, false, take}
use Rattle.base_text.specs.Lines.{has_newline}
use Rattle.base_text.proofs.newline.newline_at.Given as goal

abbrev pub invariant-loop-at : goal.invariant-loop-at
invariant-loop-at l = has_newline (take l.at l.bytes) ≡ false
