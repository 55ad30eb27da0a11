use Rattle.std.proofs.Common.{◌≡◌, flat_map, take}
use Rattle.pm_json.specs.Crates.{group_atoms}
use Rattle.pm_json.proofs.reading.group_cfgs.Given as goal

abbrev pub invariant-loop-name : goal.invariant-loop-name
invariant-loop-name l = l.cfgs.items ≡ flat_map (group_atoms l.groups) (take l.name-index l.names)
