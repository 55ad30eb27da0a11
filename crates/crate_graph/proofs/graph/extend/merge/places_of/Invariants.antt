use Rattle.std.proofs.Common.{◌≡◌, map, take}
use Rattle.crate_graph.specs.Places.{crate_hash}
use Rattle.crate_graph.proofs.HashLemmas.{crate_input}
use Rattle.crate_graph.proofs.graph.extend.merge.places_of.Given as goal

abbrev pub invariant-loop-krate : goal.invariant-loop-krate
invariant-loop-krate l = l.hashes.items ≡ map (crate_hash crate_input) (take l.krate-index l.crates)
