use Rattle.std.proofs.Common.{drop, false, length}
use Rattle.std.specs.Str.Lines.{lines}
use Rattle.pm_cargo_fetch.specs.Reports.{stream_lines}
use Rattle.pm_cargo_fetch.proofs.Reports.{IsUnderWay}
use Rattle.pm_cargo_fetch.proofs.answers.report_stream.Given as goal

-- the lines that were yielded have come, and the others are still to come
abbrev pub invariant-loop-line : goal.invariant-loop-line
invariant-loop-line g l =
    IsUnderWay (g.P.Progress.lines l.initial.progress) (g.P.Progress.lines l.progress)
    (stream_lines l.is_hidden (drop (length l.yielded) (lines l.stream))) (stream_lines false (lines l.stream))
