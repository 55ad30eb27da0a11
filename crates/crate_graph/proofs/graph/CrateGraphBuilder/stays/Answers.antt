use Rattle.std.proofs.Common.{◌≡◌, ◌∙◌, arith, map, subst, sym}
use Rattle.std.specs.List.{Contains}
use Rattle.base_text_paths.specs.Arena.{number_of}
use Rattle.graph_base.specs.Edges.{row}
use Rattle.graph_base.specs.Kept.{is_named}
use Rattle.crate_graph.specs.Graph.{edges, dependency_row}
use Rattle.crate_graph.proofs.GraphLemmas.{length-edges, row-at}
use Rattle.crate_graph.proofs.PruneLemmas.{pass_at, pass_from}
use Rattle.crate_graph.proofs.graph.CrateGraphBuilder.stays.Goals as goal

pub returns-then-contains : goal.returns-then-contains
returns-then-contains c =
    let keep = map number_of c.args.to_keep.now in
    let crates = c.args.self.now.crates in
    let n = number_of c.args.id in
    let krate = c.index.result.now in
    let here : row (edges crates) n ≡ dependency_row krate = row-at crates n krate c.index.ensures in (
      λ all. record {
        known = omega (arith, c.contains.ensures.0 c.if-contains.true, length-edges crates);
        closed = λ b e. pass_at (is_named keep) (dependency_row krate) b (sym c.names_all.ensures ∙ all) (subst (λ r. Contains r b) here e);
      },
      λ stays. c.names_all.ensures ∙ pass_from (is_named keep) (dependency_row krate) (λ b at. stays.closed b (subst (λ r. Contains r b) (sym here) at)),
    )
