use Rattle.std.proofs.Common.{◌≡◌, ◌++◌, length, drop}
use Rattle.std.specs.Str.Lines.{lines}
use Rattle.pm_tools_ask.specs.Reader.{statements_left}
use Rattle.pm_tools_ask.specs.Statements.{statements}
use Rattle.pm_tools_ask.proofs.statement.statements.Given as goal

abbrev pub invariant-loop-line : goal.invariant-loop-line
invariant-loop-line l =
    l.whole.items ++ statements_left l.list (drop (length l.yielded) (lines l.text)) ≡ statements (lines l.text)
