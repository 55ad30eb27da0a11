use Rattle.std.proofs.Common.{◌≡◌, ◌++◌, List, length}
use Rattle.pm_lower_crates.specs.Keeping.{AreLowered, HaveEdges}
use Rattle.pm_lower_crates.specs.Lowering.{Crate}
use Rattle.pm_lower_crates.specs.WantedEdges.{Edge}
use Rattle.pm_lower_crates.proofs.keeping.keep_edges.Given as goal

abbrev pub invariant-loop-edge : goal.invariant-loop-edge
invariant-loop-edge l = record {
  keeps : (before : List Edge) (bare : List Crate) → HaveEdges before l.initial.graph.crates bare → AreLowered before bare l.yielded l.graph.crates;
  all : l.initial.edge-iterator.rest.items ≡ l.yielded ++ l.edge-iterator.rest.items;
  limit : l.graph.limit ≡ l.initial.graph.limit;
  count : length l.graph.crates ≡ length l.initial.graph.crates;
}
