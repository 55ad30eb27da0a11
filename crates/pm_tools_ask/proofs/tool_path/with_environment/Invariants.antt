use Rattle.std.proofs.Common.{◌≡◌}
use Rattle.pm_tools_ask.specs.ToolPath.{with_environment}
use Rattle.pm_tools_ask.proofs.tool_path.with_environment.Given as goal

-- the variables that are left are still to be set
abbrev pub invariant-loop-name : goal.invariant-loop-name
invariant-loop-name l =
    (goal.iterator-loop-name).can_next l.name-iterator ×
    (goal.iterator-loop-name).is_finite l.name-iterator ×
    (with_environment l.name-iterator l.set ≡ with_environment l.initial.name-iterator l.initial.set)
