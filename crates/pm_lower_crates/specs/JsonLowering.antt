-- A JSON project as a part: its rows and what they want. The rule is that of rust-analyzer's
-- `project_json_to_crate_graph`.
use Rattle.std.specs.Prelude.{ℕ, List, [], map, Option}
use Rattle.pm_json.specs.declared.project_json.ProjectJson.{ProjectJson}
use Rattle.pm_lower_crates.specs.Loader.{FileNumbers}
use Rattle.pm_lower_crates.specs.Facts.{Facts}
use Rattle.pm_lower_crates.specs.Lowering.{Crate, ProjectPart}
use Rattle.pm_lower_crates.specs.WantedEdges.{Public}
use Rattle.pm_lower_crates.specs.JsonColumns.{json_columns}
use Rattle.pm_lower_crates.specs.JsonRows.{JsonRow, rows_among, rows_by_place}
use Rattle.pm_lower_crates.specs.JsonWantedEdges.{json_ranked_edges}

-- the crate of a row, which depends on nothing yet
abbrev pub json_row_crate : Facts → ProjectJson → JsonRow → Crate
json_row_crate facts project row = record {
  root = row.file;
  columns = json_columns facts project row.of;
  deps = [];
}

-- a project as part q, by the rows of its crates; no name of a document is bad
abbrev pub json_part : Facts → ℕ → Public → ProjectJson → List (Option JsonRow) → ProjectPart
json_part facts q public project rows = record {
  rows = map (json_row_crate facts project) (rows_among rows);
  wanted = json_ranked_edges q public rows;
  bad_names = [];
}

-- a JSON project as the project itself, whose rows are numbered from n on
unfoldable pub json_rows : FileNumbers → Facts → Public → ℕ → ProjectJson → ProjectPart
json_rows files facts public n project = json_part facts 1 public project (rows_by_place files n project)
