use Rattle.std.proofs.Common.{sym, subst}
use Rattle.graph_base.specs.Edges.{IsInRange}
use Rattle.pm_cargo_members.proofs.MemberLemmas.{member_graph-in_range}
use Rattle.pm_cargo_members.proofs.members.give_member_deps.Goals as goal

pub new-requires-clause-in_range : goal.new-requires-clause-in_range
new-requires-clause-in_range c = subst IsInRange (sym c.in_ok-member_graph.ensures) (member_graph-in_range c.args.packages.now)
