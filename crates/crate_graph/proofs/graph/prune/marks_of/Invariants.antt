use Rattle.std.proofs.Common.{◌≡◌, ℕ, ◌<◌, false, get_or, length, map, take}
use Rattle.base_text_paths.specs.Arena.{number_of}
use Rattle.graph_base.specs.Kept.{is_named}
use Rattle.crate_graph.proofs.graph.prune.marks_of.Given as goal

abbrev pub invariant-loop-id : goal.invariant-loop-id
invariant-loop-id l = record {
  long : length l.marks.items ≡ l.count;
  named : (n : ℕ) → n < l.count → get_or l.marks.items n false ≡ is_named (take l.id-index (map number_of l.to_keep)) n;
}
