use Rattle.std.proofs.Common.{◌≡◌, map, take}
use Rattle.std.specs.List.{filter}
use Rattle.pm_cargo_members.specs.Members.{is_member_at, place_of_dependency}
use Rattle.pm_cargo_members.proofs.members.member_row.Given as goal

abbrev pub invariant-loop-dependency : goal.invariant-loop-dependency
invariant-loop-dependency l = l.row.items ≡ filter (is_member_at l.packages) (map place_of_dependency (take l.dependency-index l.dependency-items))
