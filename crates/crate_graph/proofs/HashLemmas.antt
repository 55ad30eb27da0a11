-- What a crate's data feeds to a hasher.
use Rattle.std.specs.Hash.{HashWrites}
use Rattle.base_text_paths.specs.contracts.arena.Idx as idx
use Rattle.base_text_paths.specs.contracts.arena.IdxEq.TheImpl as idx_eq
use Rattle.base_text_paths.specs.contracts.arena.IdxHash.TheImpl as idx_hash
use Rattle.base_text_paths.specs.contracts.arena.IdxPartialEq.TheImpl as idx_partial_eq
use Rattle.crate_graph_values.specs.contracts.crate_data.CrateDataHash.TheImpl as data_hash
use Rattle.crate_graph_values.specs.contracts.crate_data.CrateTag.{the_row}
use Rattle.crate_graph_values.specs.declared.crate_data.CrateData.{CrateData}
use Rattle.crate_graph.specs.Extend.{Id}

abbrev pub crate_input : CrateData Id → HashWrites
crate_input =
    (data_hash.ghosts (idx.the_row the_row) (idx_hash.ghosts the_row) (idx_hash.dict the_row) (idx_eq.ghosts the_row) (idx_eq.dict the_row) (idx_partial_eq.ghosts the_row) (idx_partial_eq.dict the_row)).hash_input
