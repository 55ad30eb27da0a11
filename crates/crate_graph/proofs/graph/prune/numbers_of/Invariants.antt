use Rattle.std.proofs.Common.{◌≡◌, map, take}
use Rattle.base_text_paths.specs.Arena.{number_of}
use Rattle.crate_graph.proofs.graph.prune.numbers_of.Given as goal

abbrev pub invariant-loop-id : goal.invariant-loop-id
invariant-loop-id l = l.numbers.items ≡ map number_of (take l.id-index l.ids)
