use Rattle.std.proofs.Common.{◌≡◌, ◌∙◌, ◌+◌, ◌<◌, ◌^◌, [], ℕ, List, Option, ap, arith, length, refl, subst, sym, true, false}
use Rattle.std.specs.Prelude.{IfOk, OnErr, OnOk, slice_index}
use Rattle.graph_base.specs.Blocks.{FitAbove, FitBelow, RearrangesAbove, RearrangesBelow}
use Rattle.graph_base.specs.Listing.{IsInverse}
use Rattle.crate_graph.specs.Order.{AreKeptRanks, IsOrder, Ranking, ranking, ranks_in, with_next_node}
use Rattle.crate_graph.specs.Placing.{Placement}
use Rattle.crate_graph.proofs.RankingLemmas.{inverse_nodes, ranking_is_order}
use Rattle.crate_graph.proofs.ResultLemmas.{if_ok_then}
use Rattle.crate_graph.proofs.TableLemmas.{fits_above, fits_below, fits_nothing, has_each, inverse_kept, is_order, listed_short, moved_above, moved_below, node_count, none_kept, pushed_err, pushed_kept, pushed_ok, same_ranks}
use Rattle.crate_graph.proofs.order.Order.apply.Goals as goal

pub unreachable-requires : goal.unreachable-requires
unreachable-requires c =
    fits_nothing c.args.placement c.args.self.now (ap (λ (o : Option (List ℕ)). ranking (ranks_in o)) (sym c.in_default.is) ∙ c.self.view_is) c.requires

pub move_all_above-requires-clause-fit : goal.move_all_above-requires-clause-fit
move_all_above-requires-clause-fit c =
    let side = ap (λ (p : Placement). p.above) (sym c.placement.view_is) ∙ c.if-placement.true in
    let fit = fits_above c.in-Some.table c.args.self.now (ap (λ (o : Option (List ℕ)). ranking (ranks_in o)) (sym c.in-Some.is) ∙ c.self.view_is) (subst (λ (o : Option (List ℕ)). AreKeptRanks (ranks_in o)) c.in-Some.is c.self.invariant) c.args.placement c.requires side in
    subst (λ (ns : List ℕ). FitAbove c.placement.inside.mark ns c.in-Some.table) (sym c.as_slice-nodes.ensures.value)
    (subst (λ (p : Placement). FitAbove p.mark p.nodes c.in-Some.table) (sym c.placement.view_is) fit)

pub move_all_above-requires-clause-short : goal.move_all_above-requires-clause-short
move_all_above-requires-clause-short c = listed_short c.in-Some.table c.args.self.now (ap (λ (o : Option (List ℕ)). ranking (ranks_in o)) (sym c.in-Some.is) ∙ c.self.view_is) (subst (λ (o : Option (List ℕ)). AreKeptRanks (ranks_in o)) c.in-Some.is c.self.invariant) c.as_slice-nodes.result.now (move_all_above-requires-clause-fit c).listed

pub invariant_of-self : goal.invariant_of-self
invariant_of-self c =
    let kept = (subst (λ (o : Option (List ℕ)). AreKeptRanks (ranks_in o)) c.in-Some.is c.self.invariant) in
    record { ranked = c.move_all_above.ensures.ranks; short = omega (arith, c.move_all_above.ensures.moved.each.long, kept.short) }

pub returns-then-placement : goal.returns-then-placement
returns-then-placement c =
    let side = ap (λ (p : Placement). p.above) (sym c.placement.view_is) ∙ c.if-placement.true in
    let moved = subst (λ (p : Placement). RearrangesAbove p.mark p.nodes c.in-Some.table c.move_all_above.new.self) c.placement.view_is
    (subst (λ (ns : List ℕ). RearrangesAbove c.placement.inside.mark ns c.in-Some.table c.move_all_above.new.self) c.as_slice-nodes.ensures.value c.move_all_above.ensures.moved) in
    moved_above c.in-Some.table c.args.self.now (ap (λ (o : Option (List ℕ)). ranking (ranks_in o)) (sym c.in-Some.is) ∙ c.self.view_is) (subst (λ (o : Option (List ℕ)). AreKeptRanks (ranks_in o)) c.in-Some.is c.self.invariant) c.args.placement c.move_all_above.new.self c.move_all_above.ensures.ranks side moved

pub move_all_below-requires-clause-fit : goal.move_all_below-requires-clause-fit
move_all_below-requires-clause-fit c =
    let side = ap (λ (p : Placement). p.above) (sym c.placement.view_is) ∙ c.if-placement.false in
    let fit = fits_below c.in-Some.table c.args.self.now (ap (λ (o : Option (List ℕ)). ranking (ranks_in o)) (sym c.in-Some.is) ∙ c.self.view_is) (subst (λ (o : Option (List ℕ)). AreKeptRanks (ranks_in o)) c.in-Some.is c.self.invariant) c.args.placement c.requires side in
    subst (λ (ns : List ℕ). FitBelow c.placement.inside.mark ns c.in-Some.table) (sym c.as_slice-nodes.ensures.value)
    (subst (λ (p : Placement). FitBelow p.mark p.nodes c.in-Some.table) (sym c.placement.view_is) fit)

pub move_all_below-requires-clause-short : goal.move_all_below-requires-clause-short
move_all_below-requires-clause-short c = listed_short c.in-Some.table c.args.self.now (ap (λ (o : Option (List ℕ)). ranking (ranks_in o)) (sym c.in-Some.is) ∙ c.self.view_is) (subst (λ (o : Option (List ℕ)). AreKeptRanks (ranks_in o)) c.in-Some.is c.self.invariant) c.as_slice-nodes.result.now (move_all_below-requires-clause-fit c).listed

pub invariant_of-self-2 : goal.invariant_of-self-2
invariant_of-self-2 c =
    let kept = (subst (λ (o : Option (List ℕ)). AreKeptRanks (ranks_in o)) c.in-Some.is c.self.invariant) in
    record { ranked = c.move_all_below.ensures.ranks; short = omega (arith, c.move_all_below.ensures.moved.each.long, kept.short) }

pub returns : goal.returns
returns c =
    let side = ap (λ (p : Placement). p.above) (sym c.placement.view_is) ∙ c.if-placement.false in
    let moved = subst (λ (p : Placement). RearrangesBelow p.mark p.nodes c.in-Some.table c.move_all_below.new.self) c.placement.view_is
    (subst (λ (ns : List ℕ). RearrangesBelow c.placement.inside.mark ns c.in-Some.table c.move_all_below.new.self) c.as_slice-nodes.ensures.value c.move_all_below.ensures.moved) in
    moved_below c.in-Some.table c.args.self.now (ap (λ (o : Option (List ℕ)). ranking (ranks_in o)) (sym c.in-Some.is) ∙ c.self.view_is) (subst (λ (o : Option (List ℕ)). AreKeptRanks (ranks_in o)) c.in-Some.is c.self.invariant) c.args.placement c.move_all_below.new.self c.move_all_below.ensures.ranks side moved
