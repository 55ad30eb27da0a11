use Rattle.std.proofs.Common.{◌≡◌, map, take}
use Rattle.base_text_paths.specs.AbsPath.{abs_text}
use Rattle.pm_json.specs.Crates.{absolute_from}
use Rattle.pm_json.proofs.reading.absolute_paths.Given as goal

abbrev pub invariant-loop-path : goal.invariant-loop-path
invariant-loop-path l = l.found.items ≡ map (absolute_from (abs_text l.base)) (take l.path-index l.paths)
