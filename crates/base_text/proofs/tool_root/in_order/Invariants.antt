use Rattle.std.proofs.Common.{◌≡◌, ◌++◌}
use Rattle.base_values.specs.ByText.{text_entries}
use Rattle.base_text.proofs.tool_root.in_order.Given as goal

abbrev pub invariant-loop-name : goal.invariant-loop-name
invariant-loop-name l = l.list.items ++ text_entries l.name-iterator ≡ text_entries l.initial.name-iterator
