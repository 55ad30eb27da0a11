use Rattle.std.proofs.Common.{◌≡◌, take}
use Rattle.std.specs.BTreeMap as tree
use Rattle.std.specs.Prelude.{slice_get}
use Rattle.std.specs.Option.{option_map}
use Rattle.base_text_paths.specs.Arena.{number_of}
use Rattle.base_text_paths.specs.contracts.arena.IdxOrd.TheImpl as numbers
use Rattle.crate_graph_values.specs.contracts.crate_data.CrateTag.{the_row}
use Rattle.crate_graph.specs.Extend.{Id}
use Rattle.crate_graph.proofs.graph.renaming.ids_of_numbers.Given as goal

abbrev pub invariant-loop-old : goal.invariant-loop-old
invariant-loop-old l = (id : Id) → option_map number_of (tree.get (numbers.ghosts the_row).cmp l.ids id) ≡ slice_get (take l.old l.new_numbers) (number_of id)
