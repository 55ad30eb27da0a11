use Rattle.std.proofs.Common.{◌≡◌, map, take}
use Rattle.pm_json.specs.Queries.{crates_in}
use Rattle.pm_lower_load.specs.JsonRoots.{distinct_roots, json_crate_root}
use Rattle.pm_lower_load.proofs.json_project_roots.json_roots.Given as goal

abbrev pub invariant-loop-krate : goal.invariant-loop-krate
invariant-loop-krate l = l.roots.keys ≡ distinct_roots (map (json_crate_root l.extra_includes) (take l.krate-index (crates_in l.project)))
