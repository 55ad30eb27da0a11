use Rattle.std.proofs.Common.{◌<◌, ◌∙◌, ap, arith, length, subst, sym}
use Rattle.graph_base.specs.Edges.{with_edge}
use Rattle.graph_base.specs.Reversed.{IsGraph, target_rows}
use Rattle.graph_base.proofs.RowLemmas.{graph_with_edge, rows-long, rows_same, rows_with_edge}
use Rattle.graph_base.proofs.rows.Rows.add_edge.Goals as goal

pub invariant_of-self : goal.invariant_of-self
invariant_of-self c =
    let rows = c.self.inside.rows.items in
    subst IsGraph
    (sym (rows_same rows c.args.from c.index_mut.result.now c.push.new.self c.index_mut.ensures.value c.in_err-push.ensures.items))
    c.self.invariant

pub invariant_of-self-2 : goal.invariant_of-self-2
invariant_of-self-2 c =
    let rows = c.self.inside.rows.items in
    let from : c.args.from < length rows = omega (arith, c.requires.from, rows-long rows, ap length c.self.view_is) in
    let to : c.args.to < length rows = omega (arith, c.requires.to, rows-long rows, ap length c.self.view_is) in
    subst IsGraph
    (sym (rows_with_edge rows c.args.from c.args.to c.index_mut.result.now c.push.new.self from c.index_mut.ensures.value c.in_ok-push.ensures.items))
    (graph_with_edge (target_rows rows) c.args.from c.args.to c.self.invariant (omega (arith, from, rows-long rows)) (omega (arith, to, rows-long rows)))

pub returns : goal.returns
returns c =
    let rows = c.self.inside.rows.items in
    let from : c.args.from < length rows = omega (arith, c.requires.from, rows-long rows, ap length c.self.view_is) in
    rows_with_edge rows c.args.from c.args.to c.index_mut.result.now c.push.new.self from c.index_mut.ensures.value c.in_ok-push.ensures.items
    ∙ ap (λ g. with_edge g c.args.from c.args.to) c.self.view_is
