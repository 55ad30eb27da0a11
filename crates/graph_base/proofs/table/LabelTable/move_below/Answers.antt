use Rattle.std.proofs.Common.{◌<◌, ℕ, List, length, subst, sym}
use Rattle.graph_base.specs.Ranks.{MovesBelow, ranks_of}
use Rattle.graph_base.proofs.RankLemmas.{are_ranks, moves_below}
use Rattle.graph_base.proofs.table.LabelTable.move_below.Goals as goal

pub returns-clause-moved : goal.returns-clause-moved
returns-clause-moved c =
    let old = c.self.inside.labels.items in
    let new = c.move_under.new.labels.items in
    let next = c.self.inside.next.items in
    let node_there : c.args.node < length (ranks_of c.self.inside.labels.items) = subst (λ (rs : List ℕ). c.args.node < length rs) (sym c.self.view_is) c.requires.nodes.0 in
    let mark_there : c.args.mark < length (ranks_of c.self.inside.labels.items) = subst (λ (rs : List ℕ). c.args.mark < length rs) (sym c.self.view_is) c.requires.nodes.1 in
    subst (λ (rs : List ℕ). MovesBelow c.args.node c.args.mark rs (ranks_of new)) c.self.view_is
    (moves_below old next new c.move_under.new.next.items c.self.invariant.rising c.move_under.ensures.ring.rising c.args.node c.args.mark node_there mark_there c.move_under.ensures.put)

pub returns-clause-ranks : goal.returns-clause-ranks
returns-clause-ranks c = are_ranks c.move_under.new.labels.items c.move_under.new.next.items c.move_under.ensures.ring.rising
