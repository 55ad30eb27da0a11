use Rattle.std.proofs.Common.{◌≡◌, ◌∙◌, ◌<◌, None, ap, arith, length, subst, sym}
use Rattle.std.specs.Prelude.{slice_index_or}
use Rattle.std.specs.List.{All, filter_map}
use Rattle.crate_graph.specs.Order.{IsOrder, Ranking}
use Rattle.crate_graph.specs.Suborder.{FitsKept, HasEachOnce, KeepsRanks, kept_nodes}
use Rattle.crate_graph.proofs.ResultLemmas.{both_ok}
use Rattle.crate_graph.proofs.SuborderLemmas.{each_once, fits_kept, keeps_ranks, length-numbers, nodes_known, nodes_left, short}
use Rattle.crate_graph.proofs.order.Order.suborder.Goals as goal

pub new_numbers-requires-clause-short : goal.new_numbers-requires-clause-short
new_numbers-requires-clause-short c = omega (arith, c.len.ensures, c.in_ok-nodes.nodes.ok.0, ap length c.in_ok-nodes.ensures.nodes, c.in_ok-nodes.ensures.order.short)

pub new_numbers-requires-clause-known : goal.new_numbers-requires-clause-known
new_numbers-requires-clause-known c = λ n named. omega (arith, c.requires n named, c.len.ensures, c.in_ok-nodes.nodes.ok.0, ap length c.in_ok-nodes.ensures.nodes)

pub renumber-requires : goal.renumber-requires
renumber-requires c =
    let nodes : c.deref-2.result.now ≡ c.args.self.now.nodes = c.deref-2.ensures.value ∙ c.in_ok-nodes.ensures.nodes in
    let count : c.len.result ≡ length c.args.self.now.nodes = omega (arith, c.len.ensures, c.in_ok-nodes.nodes.ok.0, ap length c.in_ok-nodes.ensures.nodes) in
    let long : length c.deref.result.now ≡ length c.args.self.now.nodes = ap length c.deref.ensures.value ∙ length-numbers c.args.keep.now _ _ c.in_ok-numbers.ensures ∙ count in
    subst (λ ns. All (λ n. n < length c.deref.result.now) ns) (sym nodes)
    (subst (λ size. All (λ n. n < size) c.args.self.now.nodes) (sym long) (nodes_known c.args.self.now c.in_ok-nodes.ensures.order))

pub of_nodes-requires-clause-short : goal.of_nodes-requires-clause-short
of_nodes-requires-clause-short c =
    let nodes : c.deref-2.result.now ≡ c.args.self.now.nodes = c.deref-2.ensures.value ∙ c.in_ok-nodes.ensures.nodes in
    let count : c.len.result ≡ length c.args.self.now.nodes = omega (arith, c.len.ensures, c.in_ok-nodes.nodes.ok.0, ap length c.in_ok-nodes.ensures.nodes) in
    let made = c.in_ok-kept.ensures ∙ ap (filter_map (λ node. slice_index_or c.deref.result.now node None)) nodes in
    omega (arith, ap length c.deref-3.ensures.value, short c.args.keep.now c.args.self.now c.in_ok-nodes.ensures.order c.requires c.len.result count c.deref.result.now (c.deref.ensures.value ∙ c.in_ok-numbers.ensures) c.in_ok-kept.kept.items made)

pub of_nodes-requires-clause-once : goal.of_nodes-requires-clause-once
of_nodes-requires-clause-once c =
    let nodes : c.deref-2.result.now ≡ c.args.self.now.nodes = c.deref-2.ensures.value ∙ c.in_ok-nodes.ensures.nodes in
    let count : c.len.result ≡ length c.args.self.now.nodes = omega (arith, c.len.ensures, c.in_ok-nodes.nodes.ok.0, ap length c.in_ok-nodes.ensures.nodes) in
    let made = c.in_ok-kept.ensures ∙ ap (filter_map (λ node. slice_index_or c.deref.result.now node None)) nodes in
    subst HasEachOnce (sym c.deref-3.ensures.value)
    (each_once c.args.keep.now c.args.self.now c.in_ok-nodes.ensures.order c.requires c.len.result count c.deref.result.now (c.deref.ensures.value ∙ c.in_ok-numbers.ensures) c.in_ok-kept.kept.items made)

pub returns-clause-nodes : goal.returns-clause-nodes
returns-clause-nodes c =
    let nodes : c.deref-2.result.now ≡ c.args.self.now.nodes = c.deref-2.ensures.value ∙ c.in_ok-nodes.ensures.nodes in
    let count : c.len.result ≡ length c.args.self.now.nodes = omega (arith, c.len.ensures, c.in_ok-nodes.nodes.ok.0, ap length c.in_ok-nodes.ensures.nodes) in
    let made = c.in_ok-kept.ensures ∙ ap (filter_map (λ node. slice_index_or c.deref.result.now node None)) nodes in
    let left : c.deref-3.result.now ≡ kept_nodes c.args.keep.now c.args.self.now.nodes =
    c.deref-3.ensures.value ∙ nodes_left c.args.keep.now c.args.self.now c.in_ok-nodes.ensures.order c.requires c.len.result count c.deref.result.now (c.deref.ensures.value ∙ c.in_ok-numbers.ensures) c.in_ok-kept.kept.items made in
    both_ok IsOrder (λ (o : Ranking). o.nodes ≡ c.deref-3.result.now) (λ (o : Ranking). o.nodes ≡ kept_nodes c.args.keep.now c.args.self.now.nodes) c.of_nodes.result
    (λ order is given. given ∙ left)
    c.of_nodes.ensures.order c.of_nodes.ensures.nodes

pub returns-clause-ranks : goal.returns-clause-ranks
returns-clause-ranks c =
    let nodes : c.deref-2.result.now ≡ c.args.self.now.nodes = c.deref-2.ensures.value ∙ c.in_ok-nodes.ensures.nodes in
    let count : c.len.result ≡ length c.args.self.now.nodes = omega (arith, c.len.ensures, c.in_ok-nodes.nodes.ok.0, ap length c.in_ok-nodes.ensures.nodes) in
    let made = c.in_ok-kept.ensures ∙ ap (filter_map (λ node. slice_index_or c.deref.result.now node None)) nodes in
    let left : c.deref-3.result.now ≡ kept_nodes c.args.keep.now c.args.self.now.nodes =
    c.deref-3.ensures.value ∙ nodes_left c.args.keep.now c.args.self.now c.in_ok-nodes.ensures.order c.requires c.len.result count c.deref.result.now (c.deref.ensures.value ∙ c.in_ok-numbers.ensures) c.in_ok-kept.kept.items made in
    both_ok IsOrder (λ (o : Ranking). o.nodes ≡ c.deref-3.result.now) (KeepsRanks c.args.keep.now c.args.self.now) c.of_nodes.result
    (λ order is given. keeps_ranks c.args.keep.now c.args.self.now c.in_ok-nodes.ensures.order c.requires order is (given ∙ left))
    c.of_nodes.ensures.order c.of_nodes.ensures.nodes

pub returns-clause-fits : goal.returns-clause-fits
returns-clause-fits c =
    let nodes : c.deref-2.result.now ≡ c.args.self.now.nodes = c.deref-2.ensures.value ∙ c.in_ok-nodes.ensures.nodes in
    let count : c.len.result ≡ length c.args.self.now.nodes = omega (arith, c.len.ensures, c.in_ok-nodes.nodes.ok.0, ap length c.in_ok-nodes.ensures.nodes) in
    let made = c.in_ok-kept.ensures ∙ ap (filter_map (λ node. slice_index_or c.deref.result.now node None)) nodes in
    let left : c.deref-3.result.now ≡ kept_nodes c.args.keep.now c.args.self.now.nodes =
    c.deref-3.ensures.value ∙ nodes_left c.args.keep.now c.args.self.now c.in_ok-nodes.ensures.order c.requires c.len.result count c.deref.result.now (c.deref.ensures.value ∙ c.in_ok-numbers.ensures) c.in_ok-kept.kept.items made in
    both_ok IsOrder (λ (o : Ranking). o.nodes ≡ c.deref-3.result.now) (FitsKept c.args.keep.now c.args.self.now) c.of_nodes.result
    (λ order is given. fits_kept c.args.keep.now c.args.self.now c.in_ok-nodes.ensures.order c.requires order is (given ∙ left))
    c.of_nodes.ensures.order c.of_nodes.ensures.nodes
