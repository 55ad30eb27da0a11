use Rattle.std.proofs.Common.{◌≡◌, ◌+◌, ℕ, List, length, subst}
use Rattle.std.specs.Prelude.{IfSome, slice_index}
use Rattle.std.specs.Option.{IfNone}
use Rattle.graph_base.specs.Listing.{IsLowest}
use Rattle.graph_base.specs.Ranks.{ranks_of}
use Rattle.graph_base.proofs.RankLemmas.{first_is_lowest, no_nodes}
use Rattle.graph_base.proofs.ResultLemmas.{then_none, then_some}
use Rattle.graph_base.proofs.table.LabelTable.lowest.Goals as goal

pub returns-clause-some : goal.returns-clause-some
returns-clause-some c =
    let labels = c.self.inside.labels.items in
    let next = c.self.inside.next.items in
    subst (λ (rs : List ℕ). IfSome c.first_node.result (IsLowest rs)) c.self.view_is
    (then_some (λ node. slice_index next 0 ≡ node + 1) (IsLowest (ranks_of labels)) c.first_node.result
    (λ node is. first_is_lowest labels next c.self.invariant.rising node is)
    (subst (λ (ns : List ℕ). IfSome c.first_node.result (λ node. slice_index ns 0 ≡ node + 1)) c.as_slice.ensures.value c.first_node.ensures.some))

pub returns-clause-none : goal.returns-clause-none
returns-clause-none c =
    let labels = c.self.inside.labels.items in
    let next = c.self.inside.next.items in
    subst (λ (rs : List ℕ). IfNone c.first_node.result (length rs ≡ 0)) c.self.view_is
    (then_none (slice_index next 0 ≡ 0) (length (ranks_of labels) ≡ 0) c.first_node.result
    (λ is. no_nodes labels next c.self.invariant.rising is)
    (subst (λ (ns : List ℕ). IfNone c.first_node.result (slice_index ns 0 ≡ 0)) c.as_slice.ensures.value c.first_node.ensures.none))
