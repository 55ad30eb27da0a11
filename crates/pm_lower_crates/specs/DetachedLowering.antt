-- A detached file as a part, which no manifest but its own describes: the file is its one row, unless Cargo
-- reads it as a project; then the rows are those of that project alone. The rule is that of rust-analyzer's
-- `detached_file_to_crate_graph`.
use Rattle.std.specs.Prelude.{ℕ, false, List, [], ◌∷◌, Option, None, Some}
use Rattle.std.specs.Option.{option_map}
use Rattle.base_text_paths.specs.FileName.{stem_of}
use Rattle.base_text_paths.specs.Paths.{file_name}
use Rattle.base_text_paths.specs.declared.edition.Edition.TheVariants.{Edition2024}
use Rattle.crate_graph_values.specs.Names.{shown_as}
use Rattle.crate_graph_values.specs.declared.origin.CrateOrigin.TheVariants.{Local}
use Rattle.crate_graph_values.specs.declared.target_kind.TargetKind.TheVariants.{Lib}
use Rattle.base_text_paths.specs.ManifestPath.{directory_of}
use Rattle.pm_cargo.specs.Workspace.{Workspace}
use Rattle.pm_lower_crates.specs.Loader.{FileNumbers, file_number}
use Rattle.pm_lower_crates.specs.Columns.{Columns, cfgs_of}
use Rattle.pm_lower_crates.specs.Facts.{Facts}
use Rattle.pm_lower_crates.specs.Lowering.{Crate, ProjectPart, cargo_rows, no_project_part}
use Rattle.pm_lower_crates.specs.WantedEdges.{Public, RankedEdge, by_place, to_public, with_rank}

-- ---- the file alone

-- the name of the crate: the file's name but for its extension
abbrev pub name_of_file : List ℕ → Option (List ℕ)
name_of_file file = option_map stem_of (file_name file)

-- the columns of the crate, whose atoms a user changes as those of a crate without a name
unfoldable pub file_columns : Facts → List ℕ → Columns
file_columns facts file = record {
  edition = Edition2024;
  target_kind = Lib false;
  display_name = option_map shown_as (name_of_file file);
  version = None;
  origin = Local None (name_of_file file);
  attributes = [];
  directory = directory_of file;
  cfgs = cfgs_of facts [];
  potential_cfgs = None;
  environment = [];
  workspace_data = facts.shared;
}

-- the crate of a file that is live under a number, which depends on nothing yet
abbrev pub file_crate : Facts → List ℕ → ℕ → Crate
file_crate facts file number = record { root = number; columns = file_columns facts file; deps = [] }

-- (1, 1, 0, i): the row of the file, by its number among all rows, to the i-th public row
abbrev pub file_public_edges : Public → ℕ → List RankedEdge
file_public_edges public n =
    by_place (λ i dep. with_rank (1 ∷ 1 ∷ 0 ∷ i ∷ []) (to_public n dep ∷ [])) 0 public.rows

-- the file as the project itself, where it is live under a number; its row has the number n
abbrev pub file_part : Facts → Public → ℕ → List ℕ → Option ℕ → ProjectPart
file_part facts public n file None = no_project_part
file_part facts public n file (Some number) = record {
  rows = file_crate facts file number ∷ [];
  wanted = file_public_edges public n;
  bad_names = [];
}

-- ---- with the project that Cargo reads it as

-- a file as the project itself, whose rows are numbered from n on: that of its Cargo project alone, where it
-- has one
abbrev pub detached_rows : FileNumbers → Facts → Public → ℕ → List ℕ → Option Workspace → ProjectPart
detached_rows files facts public n file None = file_part facts public n file (file_number files file)
detached_rows files facts public n file (Some w) = cargo_rows files facts public n w
