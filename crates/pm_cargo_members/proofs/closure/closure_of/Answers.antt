use Rattle.std.proofs.Common.{ℕ, List, ap, eqb, ◌∙◌}
use Rattle.std.specs.List.{flat_map}
use Rattle.std.proofs.lemmas.List.Filters.{dedup_is}
use Rattle.graph_base.specs.Edges.{row}
use Rattle.graph_base.proofs.ClearLemmas.{cleared_trail, nodes_marked}
use Rattle.pm_cargo_members.proofs.GraphLemmas.{closure_found}
use Rattle.pm_cargo_members.proofs.closure.closure_of.Goals as goal

pub clear-requires : goal.clear-requires
clear-requires c = nodes_marked c.args.graph.now c.args.start c.search_into.new.trail c.in_ok-search_into.ensures.ok.trail

pub returns-clause-exact : goal.returns-clause-exact
returns-clause-exact c =
    let trail = c.search_into.new.trail in
    closure_found c.args.graph.now c.args.start trail c.in_ok-nodes.nodes.items c.sort_unstable.new.self.items c.dedup.new.self.items
    c.requires.in_range c.in_ok-search_into.ensures.ok
    (c.in_ok-nodes.ensures ∙ ap (λ (g : List (List ℕ)). flat_map (row g) c.nodes.result.now) c.as_slice.ensures
    ∙ ap (flat_map (row c.args.graph.now)) c.nodes.ensures)
    c.sort_unstable.ensures.permutation c.sort_unstable.ensures.sorted
    (dedup_is eqb c.sort_unstable.new.self.items c.dedup.new.self.items c.dedup.ensures.filtered)

pub returns-clause-empty : goal.returns-clause-empty
returns-clause-empty c =
    c.clear.ensures ∙ cleared_trail c.args.graph.now c.args.start c.search_into.new.trail c.in_ok-search_into.ensures.ok.trail
