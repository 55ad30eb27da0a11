use Rattle.std.proofs.Common.{◌≡◌, ◌++◌, map}
use Rattle.base_values.specs.ByText.{text_entries}
use Rattle.crate_graph_values.specs.Env.{pair_text}
use Rattle.crate_graph_values.proofs.env.Env.into_vec.Given as goal

abbrev pub invariant-loop-name : goal.invariant-loop-name
invariant-loop-name l =
    map pair_text l.pairs.items ++ text_entries l.name-iterator ≡ text_entries l.initial.name-iterator
