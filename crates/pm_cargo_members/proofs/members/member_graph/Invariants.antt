use Rattle.std.proofs.Common.{◌≡◌, map, take}
use Rattle.graph_base.specs.Reversed.{target_rows}
use Rattle.pm_cargo_members.specs.Members.{member_row}
use Rattle.pm_cargo_members.proofs.members.member_graph.Given as goal

abbrev pub invariant-loop-package : goal.invariant-loop-package
invariant-loop-package l = target_rows l.rows.items ≡ map (member_row l.packages) (take l.package-index l.packages)
