use Rattle.std.proofs.Common.{◌≡◌, ◌∙◌, ◌+◌, ◌<◌, ◌^◌, [], ℕ, List, Option, ap, arith, length, refl, subst, sym, true, false}
use Rattle.std.specs.Prelude.{IfOk, OnErr, OnOk, slice_index}
use Rattle.graph_base.specs.Blocks.{FitAbove, FitBelow, RearrangesAbove, RearrangesBelow}
use Rattle.graph_base.specs.Listing.{IsInverse}
use Rattle.crate_graph.specs.Order.{AreKeptRanks, IsOrder, Ranking, ranking, ranks_in, with_next_node}
use Rattle.crate_graph.specs.Placing.{Placement}
use Rattle.crate_graph.proofs.RankingLemmas.{inverse_nodes, ranking_is_order}
use Rattle.crate_graph.proofs.ResultLemmas.{if_ok_then}
use Rattle.crate_graph.proofs.TableLemmas.{fits_above, fits_below, fits_nothing, has_each, inverse_kept, is_order, listed_short, moved_above, moved_below, node_count, none_kept, pushed_err, pushed_kept, pushed_ok, same_ranks}
use Rattle.crate_graph.proofs.order.Order.of_table.Goals as goal

pub invariant_of-result : goal.invariant_of-result
invariant_of-result c = c.requires

pub returns : goal.returns
returns c = refl
