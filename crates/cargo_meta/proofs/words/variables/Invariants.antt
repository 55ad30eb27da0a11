use Rattle.std.proofs.Common.{◌≡◌, ◌++◌}
use Rattle.base_values.specs.ByText.{text_entries}
use Rattle.cargo_meta.proofs.words.variables.Given as goal

abbrev pub invariant-loop-name : goal.invariant-loop-name
invariant-loop-name l = l.variables.items ++ text_entries l.name-iterator ≡ l.env
