use Rattle.std.proofs.Common.{◌≡◌}
use Rattle.pm_cargo_members.specs.Members.{member_graph, with_member_deps}
use Rattle.pm_cargo_packages.proofs.UpdateLemmas.{changed_upto}
use Rattle.pm_cargo_members.proofs.members.give_lists.Given as goal

abbrev pub invariant-loop-place : goal.invariant-loop-place
invariant-loop-place l = l.packages ≡ changed_upto (with_member_deps (member_graph l.initial.packages)) 0 l.place l.initial.packages
