use Rattle.std.proofs.Common.{◌≡◌, ◌++◌, map}
use Rattle.crate_graph_values.specs.Env.{pair_text, with_pairs}
use Rattle.crate_graph_values.proofs.env.Env.extend.Given as goal

abbrev pub invariant-loop-name : goal.invariant-loop-name
invariant-loop-name l = record {
  done : l.self ≡ with_pairs l.initial.self (map pair_text l.yielded);
  all : l.initial.name-iterator.rest.items ≡ l.yielded ++ l.name-iterator.rest.items;
}
