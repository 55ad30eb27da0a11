use Rattle.std.proofs.Common.{◌≡◌, ◌+◌, ◌<◌, ◌^◌, ◌∙◌, ◌∷◌, ◌++◌, [], ap, arith, length, subst, sym}
use Rattle.crate_graph.specs.Order.{IsOrderOf}
use Rattle.crate_graph.specs.Graph.{edges}
use Rattle.base_text_paths.specs.Paths.{IsClean}
use Rattle.crate_graph_values.specs.Laws.{HasCleanMacroDirectory}
use Rattle.graph_base.proofs.ReachLemmas.{acyclic_with_node, in_range_with_node}
use Rattle.crate_graph.proofs.GraphLemmas.{edges-with_crate, length-edges, well_made-with_crate}
use Rattle.crate_graph.proofs.RankLemmas.{ranked-with_node}
use Rattle.crate_graph.proofs.graph.CrateGraphBuilder.add_crate_root.Goals as goal

pub make_room-requires : goal.make_room-requires
make_room-requires c = λ room.
    omega (arith, room, c.self.invariant.ranks.count, length-edges c.self.inside.crates.items, c.self.invariant.well_made.fits)

pub invariant_of-self-2 : goal.invariant_of-self-2
invariant_of-self-2 c =
    let none : c.new-krate.result.basic.dependencies ≡ [] = ap (λ b. b.dependencies) c.new-krate.ensures.data ∙ c.empty.ensures in
    let clean : HasCleanMacroDirectory c.new-krate.result.basic = subst HasCleanMacroDirectory (sym c.new-krate.ensures.data) (subst IsClean c.proc_macro_cwd.view_is c.proc_macro_cwd.invariant) in
    let room : length c.self.inside.crates.items < c.self.inside.limit = c.in_ok-crate_attrs.ensures.room.0 in
    let old = c.self.inside.crates.items in
    let krate = c.new-krate.result in
    let is : c.put.new.crates.items ≡ c.self.inside.crates.items ++ c.new-krate.result ∷ [] = c.put.ensures ∙ ap (λ crates. crates ++ krate ∷ []) c.in_ok-crate_attrs.ensures.crates in
    let made = c.self.invariant.well_made in
    let short : length (edges c.self.inside.crates.items) + 1 < 2 ^ 32 = omega (arith, room, made.fits, length-edges old) in
    let ranks = ranked-with_node c.self.inside.order (edges old) c.self.invariant.ranks short in
    record {
      well_made = well_made-with_crate old c.put.new.crates.items krate c.self.inside.limit is none clean room made
          (in_range_with_node (edges old) made.in_range) (acyclic_with_node (edges old) made.acyclic);
      ranks = subst (λ order. IsOrderOf order (edges c.put.new.crates.items)) (sym c.in_ok-crate_attrs.ensures.ok)
          (subst (IsOrderOf _) (sym (ap edges is ∙ edges-with_crate old krate none)) ranks);
    }
