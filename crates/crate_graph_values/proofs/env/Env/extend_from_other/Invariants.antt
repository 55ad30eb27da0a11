use Rattle.std.proofs.Common.{◌≡◌, ◌++◌, map}
use Rattle.base_values.specs.ByText.{text_entries}
use Rattle.crate_graph_values.specs.Env.{with_pairs}
use Rattle.crate_graph_values.proofs.EnvLemmas.{seen_text}
use Rattle.crate_graph_values.proofs.env.Env.extend_from_other.Given as goal

abbrev pub invariant-loop-name : goal.invariant-loop-name
invariant-loop-name l =
    (goal.iterator-loop-name).can_next l.name-iterator ×
    (goal.iterator-loop-name).is_finite l.name-iterator ×
    record {
      done : l.self ≡ with_pairs l.initial.self (map seen_text l.yielded);
      all : text_entries l.initial.name-iterator ≡ map seen_text l.yielded ++ text_entries l.name-iterator;
    }
