use Rattle.std.proofs.Common.{◌<◌, subst, sym, arith, length, rules}
use Rattle.base_text_paths.specs.Arena.{number_of}
use Rattle.graph_base.specs.Reach.{Reaches}
use Rattle.graph_base.proofs.ReachLemmas.{acyclic_with_edge, in_range_with_edge}
use Rattle.crate_graph.specs.Insertion.{GivesRoom}
use Rattle.crate_graph.specs.Order.{IsOrderOf}
use Rattle.crate_graph.specs.Placing.{Rearranges}
use Rattle.crate_graph.specs.Graph.{HasDependency, IsWellMadeGraph, edges, target_of}
use Rattle.crate_graph.proofs.GraphLemmas.{edges-with_dependency, length-edges, well_made-with_dependency}
use Rattle.crate_graph.proofs.RankLemmas.{ranked-with_edge}
use Rattle.crate_graph.proofs.graph.CrateGraphBuilder.add_dep_counted.Goals as goal

pub room_for-room-requires-clause-in_range : goal.room_for-room-requires-clause-in_range
room_for-room-requires-clause-in_range g c = c.self.invariant.well_made.in_range

pub invariant_of-self-in-Ok : goal.invariant_of-self-in-Ok
invariant_of-self-in-Ok g c =
    let old = c.args.self.now.crates in
    let from = number_of c.args.from in
    let to = target_of c.args.dep in
    let new = c.append_and_apply.new.order in
    let now = c.append_and_apply.new.crates.items in
    let made = subst (λ graph. IsWellMadeGraph graph.crates c.self.inside.limit) c.self.view_is c.self.invariant.well_made in
    let ranks = subst (λ graph. IsOrderOf graph.order (edges graph.crates)) c.self.view_is c.self.invariant.ranks in
    let has = subst (λ graph. HasDependency graph.crates now (number_of c.args.from) c.args.dep) c.self.view_is c.in_ok-append_and_apply-in-Ok.ensures.ok in
    let apart : Reaches (edges c.args.self.now.crates) (target_of c.args.dep) (number_of c.args.from) → ⊥ = search rules in
    let gives : GivesRoom (edges c.args.self.now.crates) (number_of c.args.from) (target_of c.args.dep) c.args.self.now.order c.in-Ok.placement = search rules in
    let moved : Rearranges c.in-Ok.placement c.args.self.now.order new = subst (λ graph. Rearranges c.in-Ok.placement graph.order new) c.self.view_is c.in_ok-append_and_apply-in-Ok.ensures.moved in
    let from_in : number_of c.args.from < length (edges c.args.self.now.crates) = omega (arith, c.requires.from, length-edges c.args.self.now.crates) in
    let to_in : target_of c.args.dep < length (edges c.args.self.now.crates) = omega (arith, c.requires.to, length-edges c.args.self.now.crates) in
    let room = ranked-with_edge c.args.self.now.order new (edges old) from to ranks from_in to_in moved.order (gives.room new moved) in
    record {
      well_made = well_made-with_dependency old now from c.args.dep c.requires.from has c.self.inside.limit made
          (in_range_with_edge (edges old) from to from_in to_in made.in_range)
          (acyclic_with_edge (edges old) from to from_in made.acyclic apart);
      ranks = subst (IsOrderOf new) (sym (edges-with_dependency old now from c.args.dep c.requires.from has)) room;
    }
