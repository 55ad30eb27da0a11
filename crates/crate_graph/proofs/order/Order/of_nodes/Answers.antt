use Rattle.std.proofs.Common.{◌≡◌, ◌∙◌, ◌+◌, ◌<◌, ◌^◌, [], ℕ, List, Option, ap, arith, length, refl, subst, sym, true, false}
use Rattle.std.specs.Prelude.{IfOk, OnErr, OnOk, slice_index}
use Rattle.graph_base.specs.Blocks.{FitAbove, FitBelow, RearrangesAbove, RearrangesBelow}
use Rattle.graph_base.specs.Listing.{IsInverse}
use Rattle.crate_graph.specs.Order.{AreKeptRanks, IsOrder, Ranking, ranking, ranks_in, with_next_node}
use Rattle.crate_graph.specs.Placing.{Placement}
use Rattle.crate_graph.proofs.RankingLemmas.{inverse_nodes, ranking_is_order}
use Rattle.crate_graph.proofs.ResultLemmas.{if_ok_then}
use Rattle.crate_graph.proofs.TableLemmas.{fits_above, fits_below, fits_nothing, has_each, inverse_kept, is_order, listed_short, moved_above, moved_below, node_count, none_kept, pushed_err, pushed_kept, pushed_ok, same_ranks}
use Rattle.crate_graph.proofs.order.Order.of_nodes.Goals as goal

pub returns-clause-nodes : goal.returns-clause-nodes
returns-clause-nodes c =
    let kept = inverse_kept c.args.nodes.now c.in_ok-table.table c.requires.short c.in_ok-table.ensures.ranks c.in_ok-table.ensures.nodes in
    ap (λ (o : Ranking). o.nodes) c.of_table.ensures ∙ sym (inverse_nodes c.args.nodes.now c.in_ok-table.table kept c.in_ok-table.ensures.nodes)

pub returns-clause-order : goal.returns-clause-order
returns-clause-order c =
    let kept = inverse_kept c.args.nodes.now c.in_ok-table.table c.requires.short c.in_ok-table.ensures.ranks c.in_ok-table.ensures.nodes in
    subst IsOrder (sym c.of_table.ensures) (ranking_is_order c.in_ok-table.table kept.ranked kept.short)
