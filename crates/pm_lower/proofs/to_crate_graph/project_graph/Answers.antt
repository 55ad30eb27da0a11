use Rattle.std.proofs.Common.{◌∙◌, ap, length, subst}
use Rattle.std.specs.Result.{IfOk}
use Rattle.crate_graph.specs.Graph.{Graph}
use Rattle.pm_lower_crates.specs.Facts.{Facts}
use Rattle.pm_lower_crates.specs.Lowering.{IsLoweredBehind, LacksCyclesAlone, ProjectPart, lowered_behind, wanted_edges}
use Rattle.pm_lower_crates.specs.WantedEdges.{Public}
use Rattle.pm_lower.specs.ToCrateGraph.{facts_with, kind_rows}
use Rattle.pm_lower.proofs.GraphLemmas.{facts_are, lowers_alone, rows_alone}
use Rattle.pm_lower.proofs.to_crate_graph.project_graph.Goals as goal

pub returns-clause-lowers : goal.returns-clause-lowers
returns-clause-lowers g c =
    let files = g.L.Loader.files c.args.loader.now in
    let shared = c.args.shared.now.value in
    let kind = c.args.kind.now in
    let front = c.empty-front.result in
    let n = length front.graph.crates in
    let known = facts_are shared kind c.empty-atoms.result c.new-overrides.result c.new-outputs.result c.in_sysroot.result c.empty-atoms.ensures c.new-overrides.ensures c.new-outputs.ensures c.in_sysroot.ensures in
    lowers_alone front (λ (public : Public) k. kind_rows files (facts_with shared kind) public k kind) c.empty-front.ensures.crates c.empty-front.ensures.public c.args.limits.now.crates c.kind_graph.result
    c.empty-front.ensures.limit
    (subst (λ (facts : Facts). IsLoweredBehind front.graph c.kind_graph.result (lowered_behind front.graph.limit n (kind_rows files facts front.public n kind))) known c.kind_graph.ensures.lowers)

pub returns-clause-missing : goal.returns-clause-missing
returns-clause-missing g c =
    let files = g.L.Loader.files c.args.loader.now in
    let shared = c.args.shared.now.value in
    let kind = c.args.kind.now in
    let front = c.empty-front.result in
    let n = length front.graph.crates in
    let known = facts_are shared kind c.empty-atoms.result c.new-overrides.result c.new-outputs.result c.in_sysroot.result c.empty-atoms.ensures c.new-overrides.ensures c.new-outputs.ensures c.in_sysroot.ensures in
    let same =
    ap (λ (facts : Facts). kind_rows files facts front.public n kind) known
    ∙ rows_alone front (λ (public : Public) k. kind_rows files (facts_with shared kind) public k kind) c.empty-front.ensures.crates c.empty-front.ensures.public in
    subst (λ (part : ProjectPart). IfOk c.kind_graph.result (λ (graph : Graph). LacksCyclesAlone (wanted_edges part) graph.crates)) same c.kind_graph.ensures.missing
