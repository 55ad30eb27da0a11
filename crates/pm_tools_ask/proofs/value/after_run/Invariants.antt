use Rattle.std.proofs.Common.{◌≡◌}
use Rattle.std.specs.Str.Iter.{chars_rest}
use denote.Text.{Utf8}
use denote.Shadow.{shadow}
use Rattle.pm_tools_ask.specs.Line.{after_run}
use Rattle.pm_tools_ask.proofs.value.after_run.Given as goal

abbrev pub invariant-loop-c : goal.invariant-loop-c
invariant-loop-c l =
    (goal.iterator-loop-c).can_next l.chars ×
    (goal.iterator-loop-c).is_finite l.chars ×
    shadow (Utf8 l.rest) ×
    (chars_rest l.chars ≡ l.rest) ×
    (after_run l.rest ≡ after_run l.text)
