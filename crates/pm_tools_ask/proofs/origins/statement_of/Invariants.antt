use Rattle.std.proofs.Common.{◌≡◌, drop}
use Rattle.pm_tools_ask.specs.Statements.{statement_of}
use Rattle.pm_tools_ask.proofs.origins.statement_of.Given as goal

abbrev pub invariant-loop-statement : goal.invariant-loop-statement
invariant-loop-statement l =
    statement_of l.keys (drop l.statement-index l.statements) ≡ statement_of l.keys l.statements
