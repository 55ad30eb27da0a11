use Rattle.std.proofs.Common.{ap, subst, sym}
use Rattle.std.proofs.lemmas.Result.{IfOk-weaker}
use Rattle.graph_base.specs.Edges.{IsAscending}
use Rattle.input_db.specs.Identity.{crate_edges}
use Rattle.input_db.proofs.ItselfFirst.{first_once, reaches_same}
use Rattle.input_db.proofs.crate_input.Crate.transitive_deps.Goals as goal

pub returns-clause-exact : goal.returns-clause-exact
returns-clause-exact g c =
    IfOk-weaker c.itself_first.result _ _
    (λ crates is. reaches_same (crate_edges (g.D.SourceDatabase.seen c.args.db.now).crates)
    (crate_edges c.crates_map-table.result.now) c.args.self c.number.result c.deref.result.now
    c.in_ok-reached.reached.items crates.items (ap crate_edges c.crates_map-table.ensures)
    c.number.ensures c.deref.ensures.value is c.in_ok-reached.ensures.exact)
    c.itself_first.ensures

pub returns-clause-once : goal.returns-clause-once
returns-clause-once g c =
    let ascending = subst IsAscending (sym c.deref.ensures.value) c.in_ok-reached.ensures.ascending in
    IfOk-weaker c.itself_first.result _ _
    (λ crates is. first_once c.args.self c.deref.result.now crates.items is ascending) c.itself_first.ensures
