use Rattle.std.proofs.Common.{◌≡◌, ◌+◌, ◌<◌, ◌^◌, ℕ, List, ap, arith, length, subst, sym}
use Rattle.std.specs.Prelude.{OnErr, OnOk}
use Rattle.graph_base.specs.Pushing.{AddsLast}
use Rattle.graph_base.specs.Ranks.{ranks_of, with_next_rank}
use Rattle.graph_base.specs.Spreading.{KeepsOrder}
use Rattle.graph_base.proofs.NextRankLemmas.{next_ranks}
use Rattle.graph_base.proofs.RankLemmas.{are_ranks, length-ranks, same_ranks}
use Rattle.graph_base.proofs.ResultLemmas.{then_err, then_ok}
use Rattle.graph_base.proofs.table.LabelTable.push.Goals as goal

pub push_position-requires-clause-short : goal.push_position-requires-clause-short
push_position-requires-clause-short c =
    omega (arith, c.requires, ap length c.self.view_is, length-ranks c.self.inside.labels.items, c.self.invariant.rising.some)

pub returns-clause-ok : goal.returns-clause-ok
returns-clause-ok c =
    let old = c.self.inside.labels.items in
    let new = c.push_position.new.labels.items in
    subst (λ (rs : List ℕ). OnOk c.push_position.result (ranks_of new ≡ with_next_rank rs)) c.self.view_is
    (then_ok (AddsLast old new) (ranks_of new ≡ with_next_rank (ranks_of old)) c.push_position.result (next_ranks old new c.self.inside.next.items c.self.invariant.rising) c.push_position.ensures.ok)

pub returns-clause-err : goal.returns-clause-err
returns-clause-err c =
    let old = c.self.inside.labels.items in
    let new = c.push_position.new.labels.items in
    subst (λ (rs : List ℕ). OnErr c.push_position.result (ranks_of new ≡ rs)) c.self.view_is
    (then_err (KeepsOrder old new) (ranks_of new ≡ ranks_of old) c.push_position.result (same_ranks old c.self.inside.next.items new c.self.invariant.rising) c.push_position.ensures.err)

pub returns-clause-ranks : goal.returns-clause-ranks
returns-clause-ranks c = are_ranks c.push_position.new.labels.items c.push_position.new.next.items c.push_position.ensures.ring.rising
