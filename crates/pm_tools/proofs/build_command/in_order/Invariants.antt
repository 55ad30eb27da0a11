use Rattle.std.proofs.Common.{◌≡◌, ◌++◌}
use Rattle.base_values.specs.ByText.{text_entries}
use Rattle.pm_tools.proofs.build_command.in_order.Given as goal

-- the variables so far, and those that are left
abbrev pub invariant-loop-name : goal.invariant-loop-name
invariant-loop-name l = l.list.items ++ text_entries l.name-iterator ≡ l.variables
