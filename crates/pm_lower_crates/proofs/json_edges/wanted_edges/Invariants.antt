use Rattle.std.proofs.Common.{◌≡◌, take}
use Rattle.std.specs.List.{flat_map}
use Rattle.pm_lower_crates.specs.JsonGathering.{json_edges_from}
use Rattle.pm_lower_crates.specs.JsonRows.{rows_among}
use Rattle.pm_lower_crates.proofs.json_edges.wanted_edges.Given as goal

abbrev pub invariant-loop-row : goal.invariant-loop-row
invariant-loop-row l = l.edges.items ≡ flat_map (json_edges_from l.public l.rows) (rows_among (take l.row-index l.rows))
