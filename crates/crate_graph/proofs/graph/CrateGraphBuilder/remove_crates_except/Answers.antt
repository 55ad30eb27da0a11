use Rattle.std.proofs.Common.{◌∙◌, ap, map, subst, sym}
use Rattle.base_text_paths.specs.Arena.{number_of}
use Rattle.crate_graph.specs.Order.{IsOrderOf}
use Rattle.crate_graph.specs.Graph.{IsWellMadeGraph, edges}
use Rattle.graph_base.proofs.KeptLemmas.{acyclic_kept, in_range_kept}
use Rattle.crate_graph.proofs.PruneLemmas.{edges-kept, well_made-kept}
use Rattle.crate_graph.proofs.graph.CrateGraphBuilder.remove_crates_except.Goals as goal

pub invariant_of-self : goal.invariant_of-self
invariant_of-self c =
    let old = c.args.self.now.crates in
    let keep = map number_of c.args.to_keep.now in
    let made = subst (λ graph. IsWellMadeGraph graph.crates c.self.inside.limit) c.self.view_is c.self.invariant.well_made in
    record {
      well_made = well_made-kept old c.in_ok-kept.kept.items keep c.self.inside.limit c.in_ok-kept.ensures.crates made
          (in_range_kept (edges old) keep c.requires) (acyclic_kept (edges old) keep c.requires made.acyclic);
      ranks = subst (IsOrderOf c.in_ok-order.order) (sym (ap edges c.in_ok-kept.ensures.crates ∙ edges-kept keep old)) c.in_ok-order.ensures.order;
    }
