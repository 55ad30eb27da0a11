-- What code gathers on the way to a graph: rows as crates without dependencies, and edges without their
-- ranks. The rules are those of `Rows` and `WantedEdges`; no public clause names these.
use Rattle.std.specs.Prelude.{◌≡◌, ◌≤◌, List, ◌++◌, map, length, Option}
use Rattle.std.specs.List.{flat_map}
use Rattle.crate_graph.specs.Graph.{Graph}
use Rattle.pm_json.specs.declared.project_json.ProjectJson.{ProjectJson}
use Rattle.pm_lower_crates.specs.Facts.{Facts}
use Rattle.pm_lower_crates.specs.Lowering.{crate_seen}
use Rattle.pm_lower_crates.specs.WantedEdges.{Edge, Public}
use Rattle.pm_lower_crates.specs.JsonLowering.{json_row_crate}
use Rattle.pm_lower_crates.specs.JsonRows.{JsonRow, rows_among}
use Rattle.pm_lower_crates.specs.JsonWantedEdges.{json_to_libraries, to_row}

-- rows follow a graph's crates, with no dependencies, as far as its limit allows
pub record AddsJsonRows (facts : Facts) (project : ProjectJson) (old new : Graph) (rows : List JsonRow)
    : Type 0 where
  pub limit : new.limit ≡ old.limit
  pub within : length old.crates ≤ old.limit → length new.crates ≤ old.limit
  pub crates :
      map crate_seen new.crates ≡ map crate_seen old.crates ++ map (json_row_crate facts project) rows

-- the edges of a row to a toolchain's libraries, and to the rows of its crate's dependencies
abbrev pub json_edges_from : Public → List (Option JsonRow) → JsonRow → List Edge
json_edges_from public rows row = json_to_libraries public row ++ flat_map (to_row rows row) row.of.deps

-- all edges that are wanted between rows, and from them to a toolchain's libraries
abbrev pub json_edges_among : Public → List (Option JsonRow) → List Edge
json_edges_among public rows = flat_map (json_edges_from public rows) (rows_among rows)
