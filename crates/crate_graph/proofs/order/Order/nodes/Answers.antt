use Rattle.std.proofs.Common.{◌≡◌, ◌∙◌, ◌+◌, ◌<◌, ◌^◌, [], ℕ, List, Option, ap, arith, length, refl, subst, sym, true, false}
use Rattle.std.specs.Prelude.{IfOk, OnErr, OnOk, slice_index}
use Rattle.graph_base.specs.Blocks.{FitAbove, FitBelow, RearrangesAbove, RearrangesBelow}
use Rattle.graph_base.specs.Listing.{IsInverse}
use Rattle.crate_graph.specs.Order.{AreKeptRanks, IsOrder, Ranking, ranking, ranks_in, with_next_node}
use Rattle.crate_graph.specs.Placing.{Placement}
use Rattle.crate_graph.proofs.RankingLemmas.{inverse_nodes, ranking_is_order}
use Rattle.crate_graph.proofs.ResultLemmas.{if_ok_then}
use Rattle.crate_graph.proofs.TableLemmas.{fits_above, fits_below, fits_nothing, has_each, inverse_kept, is_order, listed_short, moved_above, moved_below, node_count, none_kept, pushed_err, pushed_kept, pushed_ok, same_ranks}
use Rattle.crate_graph.proofs.order.Order.nodes.Goals as goal

pub returns-in-None-clause-nodes : goal.returns-in-None-clause-nodes
returns-in-None-clause-nodes c = c.new.ensures.items ∙ ap (λ (o : Ranking). o.nodes) (ap (λ (o : Option (List ℕ)). ranking (ranks_in o)) (sym c.in-None.is) ∙ c.self.view_is)

pub returns-in-None-clause-order : goal.returns-in-None-clause-order
returns-in-None-clause-order c = is_order [] c.args.self.now (ap (λ (o : Option (List ℕ)). ranking (ranks_in o)) (sym c.in-None.is) ∙ c.self.view_is) none_kept

pub returns-in-Some-clause-nodes : goal.returns-in-Some-clause-nodes
returns-in-Some-clause-nodes c =
    if_ok_then (λ nodes. IsInverse nodes.items c.in-Some.table) (λ nodes. nodes.items ≡ c.args.self.now.nodes) c.nodes.result
    (λ nodes is. inverse_nodes nodes.items c.in-Some.table (subst (λ (o : Option (List ℕ)). AreKeptRanks (ranks_in o)) c.in-Some.is c.self.invariant) is ∙ ap (λ (o : Ranking). o.nodes) (ap (λ (o : Option (List ℕ)). ranking (ranks_in o)) (sym c.in-Some.is) ∙ c.self.view_is)) c.nodes.ensures

pub returns-in-Some-clause-order : goal.returns-in-Some-clause-order
returns-in-Some-clause-order c = is_order c.in-Some.table c.args.self.now (ap (λ (o : Option (List ℕ)). ranking (ranks_in o)) (sym c.in-Some.is) ∙ c.self.view_is) (subst (λ (o : Option (List ℕ)). AreKeptRanks (ranks_in o)) c.in-Some.is c.self.invariant)
