use Rattle.std.proofs.Common.{ℕ, ◌<◌, ◌+◌, List, length, subst, sym}
use Rattle.std.specs.List.Sorted.{IsNonDecreasingBy}
use Rattle.std.specs.Prelude.{slice_index}
use Rattle.graph_base.specs.Listing.{AreAscending}
use Rattle.graph_base.specs.Ranks.{ranks_of}
use Rattle.graph_base.proofs.RankLemmas.{sorted_ranks}
use Rattle.graph_base.proofs.table.LabelTable.sort.Goals as goal

pub returns-clause-ascending : goal.returns-clause-ascending
returns-clause-ascending c =
    let labels = c.self.inside.labels.items in
    let next = c.self.inside.next.items in
    let old = c.args.nodes.now.items in
    let new = c.sort_by_label.new.nodes.items in
    let within : (k : ℕ) → k < length c.args.nodes.now.items → slice_index c.args.nodes.now.items k < length (ranks_of c.self.inside.labels.items) =
    subst (λ (rs : List ℕ). (k : ℕ) → k < length old → slice_index old k < length rs) (sym c.self.view_is) c.requires in
    let sorted = subst (λ (ls : List ℕ). IsNonDecreasingBy (λ n. slice_index ls (n + 1)) new) c.as_slice.ensures.value c.sort_by_label.ensures.sorted in
    subst (λ (rs : List ℕ). AreAscending rs new) c.self.view_is (sorted_ranks labels next old new c.self.invariant.rising within c.sort_by_label.ensures.same sorted)
