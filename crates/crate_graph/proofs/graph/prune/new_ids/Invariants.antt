use Rattle.std.proofs.Common.{◌≡◌, map}
use Rattle.std.specs.List.{range_with_len}
use Rattle.std.specs.Option.{option_map}
use Rattle.base_text_paths.specs.Arena.{number_of}
use Rattle.graph_base.specs.Kept.{kept_below}
use Rattle.crate_graph.specs.Suborder.{new_number}
use Rattle.crate_graph.proofs.graph.prune.new_ids.Given as goal

abbrev pub invariant-loop-mark : goal.invariant-loop-mark
invariant-loop-mark l = record {
  ids_are : map (option_map number_of) l.ids.items ≡ map (new_number (map number_of l.to_keep)) (range_with_len 0 l.mark-index);
  numbers_are : l.numbers.items ≡ map (kept_below (map number_of l.to_keep)) (range_with_len 0 l.mark-index);
  next : l.next ≡ kept_below (map number_of l.to_keep) l.mark-index;
}
