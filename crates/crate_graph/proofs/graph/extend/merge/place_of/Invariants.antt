use Rattle.std.proofs.Common.{◌≡◌, ℕ, length}
use Rattle.crate_graph_values.specs.contracts.builder.CrateBuilderPartialEq.TheImpl as krates
use Rattle.crate_graph.proofs.PlacesLemmas.{AreAlike, Searches, left_from}
use Rattle.crate_graph.proofs.graph.extend.merge.place_of.Given as goal

abbrev pub invariant-loop-place : goal.invariant-loop-place
invariant-loop-place l = (hash : ℕ) × (length l.places ≡ length l.crates) × AreAlike (λ old. (krates.eq-value).it old l.krate) l.crates l.places hash
    × Searches (λ old. (krates.eq-value).it old l.krate) l.crates l.places hash l.place

abbrev pub decreases-loop-place : goal.decreases-loop-place
decreases-loop-place l = left_from l.crates l.place
