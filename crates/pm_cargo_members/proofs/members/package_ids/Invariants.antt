use Rattle.std.proofs.Common.{◌≡◌, take}
use Rattle.pm_cargo_members.specs.Members.{package_ids}
use Rattle.pm_cargo_members.proofs.members.package_ids.Given as goal

abbrev pub invariant-loop-place : goal.invariant-loop-place
invariant-loop-place l = l.ids.items ≡ package_ids (take l.place-index l.places)
