use Rattle.std.proofs.Common.{◌≡◌, ◌<◌, ◌+◌, ℕ, List, ap, length, subst, sym}
use Rattle.std.specs.Prelude.{IfSome, slice_index}
use Rattle.std.specs.Option.{IfNone}
use Rattle.graph_base.specs.Ranks.{IsHighest, IsNextAbove, ranks_of}
use Rattle.graph_base.proofs.RankLemmas.{is_highest, next_is_above}
use Rattle.graph_base.proofs.ResultLemmas.{then_none, then_some}
use Rattle.graph_base.proofs.table.LabelTable.above.Goals as goal

pub returns-clause-some : goal.returns-clause-some
returns-clause-some c =
    let labels = c.self.inside.labels.items in
    let next = c.self.inside.next.items in
    let there : c.args.node < length (ranks_of c.self.inside.labels.items) = subst (λ (rs : List ℕ). c.args.node < length rs) (sym c.self.view_is) c.requires in
    subst (λ (rs : List ℕ). IfSome c.next_above.result (IsNextAbove rs c.args.node)) c.self.view_is
    (then_some (λ above. slice_index next (c.args.node + 1) ≡ above + 1) (IsNextAbove (ranks_of labels) c.args.node) c.next_above.result
    (λ above is. next_is_above labels next c.self.invariant.rising c.args.node above there is)
    (subst (λ (ns : List ℕ). IfSome c.next_above.result (λ above. slice_index ns (c.args.node + 1) ≡ above + 1)) c.as_slice-2.ensures.value c.next_above.ensures.some))

pub returns-clause-none : goal.returns-clause-none
returns-clause-none c =
    let labels = c.self.inside.labels.items in
    let next = c.self.inside.next.items in
    let there : c.args.node < length (ranks_of c.self.inside.labels.items) = subst (λ (rs : List ℕ). c.args.node < length rs) (sym c.self.view_is) c.requires in
    subst (λ (rs : List ℕ). IfNone c.next_above.result (IsHighest rs c.args.node)) c.self.view_is
    (then_none (slice_index next (c.args.node + 1) ≡ 0) (IsHighest (ranks_of labels) c.args.node) c.next_above.result
    (λ is. is_highest labels next c.self.invariant.rising c.args.node there is)
    (subst (λ (ns : List ℕ). IfNone c.next_above.result (slice_index ns (c.args.node + 1) ≡ 0)) c.as_slice-2.ensures.value c.next_above.ensures.none))
