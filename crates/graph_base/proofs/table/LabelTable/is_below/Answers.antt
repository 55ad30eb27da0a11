use Rattle.std.proofs.Common.{◌<◌, ◌+◌, ℕ, List, length, subst, sym}
use Rattle.std.specs.Prelude.{◌↔◌, IsTrue, slice_index}
use Rattle.graph_base.specs.Ranks.{ranks_of}
use Rattle.graph_base.proofs.RankLemmas.{label_less, node_in, rank_less}
use Rattle.graph_base.proofs.table.LabelTable.is_below.Goals as goal

pub returns : goal.returns
returns c =
    let labels = c.self.inside.labels.items in
    let next = c.self.inside.next.items in
    let rising = c.self.invariant.rising in
    let node_there : c.args.node < length (ranks_of c.self.inside.labels.items) = subst (λ (rs : List ℕ). c.args.node < length rs) (sym c.self.view_is) c.requires.nodes.0 in
    let other_there : c.args.other < length (ranks_of c.self.inside.labels.items) = subst (λ (rs : List ℕ). c.args.other < length rs) (sym c.self.view_is) c.requires.nodes.1 in
    let node_in' = node_in labels next rising c.args.node node_there in
    let other_in = node_in labels next rising c.args.other other_there in
    let lower = subst (λ (ls : List ℕ). IsTrue c.is_lower.result ↔ slice_index ls (c.args.node + 1) < slice_index ls (c.args.other + 1)) c.as_slice.ensures.value c.is_lower.ensures in
    subst (λ (rs : List ℕ). IsTrue c.is_lower.result ↔ slice_index rs c.args.node < slice_index rs c.args.other) c.self.view_is (
      (λ yes. rank_less labels next rising c.args.node c.args.other node_in' other_in (lower.0 yes)),
      (λ less. lower.1 (label_less labels next rising c.args.node c.args.other node_in' other_in less)),
    )
