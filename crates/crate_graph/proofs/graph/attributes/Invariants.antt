use Rattle.std.proofs.Common.{◌≡◌, ◌++◌, map, string_bytes}
use Rattle.crate_graph.specs.Graph.{attribute}
use Rattle.crate_graph.proofs.graph.attributes.Given as goal

abbrev pub invariant-loop-text : goal.invariant-loop-text
invariant-loop-text l = record {
  made : l.made.items ≡ map (λ text. attribute (string_bytes text)) l.yielded;
  all : l.initial.text-iterator.rest.items ≡ l.yielded ++ l.text-iterator.rest.items;
}
