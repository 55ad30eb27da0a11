use Rattle.std.proofs.Common.{◌≡◌, ◌<◌, length}
use Rattle.std.specs.BTreeMap as tree
use Rattle.std.specs.List.{All}
use Rattle.std.specs.Option.{option_or}
use Rattle.base_text_paths.specs.Arena.{number_of}
use Rattle.base_text_paths.specs.contracts.arena.IdxOrd.TheImpl as numbers
use Rattle.crate_graph_values.specs.contracts.crate_data.CrateTag.{the_row}
use Rattle.crate_graph.specs.Extend.{Id, moved_entry, new_id_at}
use Rattle.crate_graph.proofs.graph.extend.macros.renumber_macros.Given as goal

abbrev pub invariant-loop-id : goal.invariant-loop-id
invariant-loop-id l = record {
  within : All (λ e. number_of e.0 < length l.new_numbers) l.id-iterator;
  moved_entry : (id : Id) → option_or (moved_entry (new_id_at l.new_numbers) l.id-iterator id) (tree.get (numbers.ghosts the_row).cmp l.new_macros id) ≡ moved_entry (new_id_at l.new_numbers) l.macros.entries id;
}
