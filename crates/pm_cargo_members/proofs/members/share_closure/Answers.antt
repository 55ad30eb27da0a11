use Rattle.std.proofs.Common.{sym, subst}
use Rattle.std.specs.List.{All}
use Rattle.graph_base.specs.Reach.{Reaches}
use Rattle.pm_cargo_members.specs.SharedLists.{SharesList}
use Rattle.pm_cargo_members.proofs.MemberLemmas.{AreClosures-shared}
use Rattle.pm_cargo_members.proofs.members.share_closure.Goals as goal

pub returns-clause-lists : goal.returns-clause-lists
returns-clause-lists c =
    let graph = c.args.graph.now in
    let new = c.share_list.new.lists.items in
    let reach = subst (All (λ node. Reaches graph node c.args.node)) (sym c.nodes.ensures) c.in_ok-find_reaching.ensures.reach in
    let shared = subst (λ closure. SharesList c.nodes.result.now closure c.args.lists.now.items new) c.requires.closure c.in_ok-share_list.ensures in
    AreClosures-shared graph c.args.node c.requires.in_range c.nodes.result.now c.args.lists.now.items new reach c.requires.lists shared
