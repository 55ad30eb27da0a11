use Rattle.std.proofs.Common.{◌≡◌, ◌<◌, ◌∙◌, ◌+◌, ℕ, List, length, subst, sym}
use Rattle.std.specs.Prelude.{slice_index}
use Rattle.graph_base.specs.Ranks.{labels_below, ranks_of}
use Rattle.graph_base.proofs.RankLemmas.{node_in, rank_at}
use Rattle.graph_base.proofs.table.LabelTable.rank.Goals as goal

pub returns : goal.returns
returns c =
    let labels = c.self.inside.labels.items in
    let next = c.self.inside.next.items in
    let there : c.args.node < length (ranks_of c.self.inside.labels.items) = subst (λ (rs : List ℕ). c.args.node < length rs) (sym c.self.view_is) c.requires in
    let count = subst (λ (ls : List ℕ). c.count_below.result ≡ labels_below ls (slice_index ls (c.args.node + 1))) c.as_slice.ensures.value c.count_below.ensures in
    subst (λ (rs : List ℕ). c.count_below.result ≡ slice_index rs c.args.node) c.self.view_is
    (count ∙ sym (rank_at labels c.args.node (node_in labels next c.self.invariant.rising c.args.node there)))
