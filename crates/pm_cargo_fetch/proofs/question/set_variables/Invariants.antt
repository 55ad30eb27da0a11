use Rattle.std.proofs.Common.{◌≡◌}
use Rattle.pm_cargo_fetch.specs.Questions.{with_variables}
use Rattle.pm_cargo_fetch.proofs.question.set_variables.Given as goal

-- the variables that were taken are set, and nothing else changes
abbrev pub invariant-loop-name : goal.invariant-loop-name
invariant-loop-name l =
    l.command ≡ record l.initial.command { env = with_variables l.yielded l.initial.command.env }
