use Rattle.std.proofs.Common.{◌≡◌, ◌+◌, ◌<◌, ◌≤◌, ◌∙◌, ap, arith, length, refl, subst, sym}
use Rattle.std.proofs.lemmas.Result.{err_from_is_err_and}
use Rattle.crate_graph.specs.Graph.{Graph}
use Rattle.pm_lower_crates.specs.Facts.{facts_of}
use Rattle.pm_lower_crates.proofs.GatheredLemmas.{gathered_has, gathered_lacks, gathered_within}
use Rattle.pm_lower_crates.proofs.LoweringLemmas.{refuses_past}
use Rattle.pm_lower_crates.proofs.RowLemmas.{limit_weaker}
use Rattle.pm_lower_crates.specs.JsonGathering.{AddsJsonRows, json_edges_among}
use Rattle.pm_lower_crates.specs.JsonLowering.{json_rows}
use Rattle.pm_lower_crates.specs.JsonRows.{rows_among, rows_by_place}
use Rattle.pm_lower_crates.proofs.JsonLoweringLemmas.{json_count, json_gathered, json_names}
use Rattle.pm_lower_crates.proofs.json_lowering.lower_json.Goals as goal

pub add_rows-requires : goal.add_rows-requires
add_rows-requires g c = subst (λ (old : Graph). length old.crates ≤ old.limit) (sym c.into_parts-graph.ensures.graph) c.into_parts-graph.ensures.well_made.within

pub returns-in_err-rows-clause-lowers : goal.returns-in_err-rows-clause-lowers
returns-in_err-rows-clause-lowers g c =
    let files = g.L.Loader.files c.args.loader.now in
    let project = c.args.project.now in
    let facts = facts_of g.O.BuildOutputs.output_at g.O.BuildOutputs.is_failed c.args.facts.now in
    let front = c.args.front in
    let n = length front.graph.crates in
    let e = c.in_err-rows.field-0.0 in
    let p = err_from_is_err_and c.from_residual.result c.from_residual.ensures.1 in
    let count = json_count files facts front.public n project in
    rw (p.1, p.2) (refuses_past front.graph.limit n (json_rows files facts front.public n project) e
    (limit_weaker e _ _
    (λ full. let past = subst (λ (old : Graph). old.limit < length old.crates + length (rows_among (rows_by_place files (length old.crates) project))) c.into_parts-graph.ensures.graph full in
    omega (arith, past, count))
    c.in_err-rows.ensures.full))

pub keep_edges-requires : goal.keep_edges-requires
keep_edges-requires g c =
    let files = g.L.Loader.files c.args.loader.now in
    let project = c.args.project.now in
    let facts = facts_of g.O.BuildOutputs.output_at g.O.BuildOutputs.is_failed c.args.facts.now in
    let front = c.args.front in
    let n = length front.graph.crates in
    let made = c.in_ok-rows.rows.items in
    let mid = c.add_rows.new.graph in
    let same = c.into_parts-graph.ensures.graph in
    let made_are : made ≡ rows_by_place files n project = c.in_ok-rows.ensures.rows ∙ ap (λ (old : Graph). rows_by_place files (length old.crates) project) same in
    let adds = subst (λ (old : Graph). AddsJsonRows facts project old mid (rows_among made)) same c.in_ok-rows.ensures.added in
    let wants : c.in_ok-edges.edges.items ≡ json_edges_among front.public made =
    c.in_ok-edges.ensures ∙ (λ i. json_edges_among (c.into_parts-graph.ensures.public i) (c.as_slice.ensures.value i)) in
    gathered_within front.graph mid (json_rows files facts front.public n project) c.in_ok-edges.edges.items
    (json_gathered files facts front.public n project front.graph mid made c.in_ok-edges.edges.items refl c.into_parts-graph.ensures.well_made c.into_parts-graph.ensures.within made_are adds wants)

pub returns-clause-lowers : goal.returns-clause-lowers
returns-clause-lowers g c =
    let files = g.L.Loader.files c.args.loader.now in
    let project = c.args.project.now in
    let facts = facts_of g.O.BuildOutputs.output_at g.O.BuildOutputs.is_failed c.args.facts.now in
    let front = c.args.front in
    let n = length front.graph.crates in
    let made = c.in_ok-rows.rows.items in
    let mid = c.add_rows.new.graph in
    let same = c.into_parts-graph.ensures.graph in
    let made_are : made ≡ rows_by_place files n project = c.in_ok-rows.ensures.rows ∙ ap (λ (old : Graph). rows_by_place files (length old.crates) project) same in
    let adds = subst (λ (old : Graph). AddsJsonRows facts project old mid (rows_among made)) same c.in_ok-rows.ensures.added in
    let wants : c.in_ok-edges.edges.items ≡ json_edges_among front.public made =
    c.in_ok-edges.ensures ∙ (λ i. json_edges_among (c.into_parts-graph.ensures.public i) (c.as_slice.ensures.value i)) in
    let gathered = json_gathered files facts front.public n project front.graph mid made c.in_ok-edges.edges.items refl c.into_parts-graph.ensures.well_made c.into_parts-graph.ensures.within made_are adds wants in
    gathered_has front.graph mid (json_rows files facts front.public n project) c.in_ok-edges.edges.items gathered c.keep_edges.new.graph
    (json_names files facts front.public n project) c.in_ok-keep_edges.ensures.limit c.in_ok-keep_edges.ensures.behind

pub returns-clause-missing : goal.returns-clause-missing
returns-clause-missing g c =
    let files = g.L.Loader.files c.args.loader.now in
    let project = c.args.project.now in
    let facts = facts_of g.O.BuildOutputs.output_at g.O.BuildOutputs.is_failed c.args.facts.now in
    let front = c.args.front in
    let n = length front.graph.crates in
    let made = c.in_ok-rows.rows.items in
    let mid = c.add_rows.new.graph in
    let same = c.into_parts-graph.ensures.graph in
    let made_are : made ≡ rows_by_place files n project = c.in_ok-rows.ensures.rows ∙ ap (λ (old : Graph). rows_by_place files (length old.crates) project) same in
    let adds = subst (λ (old : Graph). AddsJsonRows facts project old mid (rows_among made)) same c.in_ok-rows.ensures.added in
    let wants : c.in_ok-edges.edges.items ≡ json_edges_among front.public made =
    c.in_ok-edges.ensures ∙ (λ i. json_edges_among (c.into_parts-graph.ensures.public i) (c.as_slice.ensures.value i)) in
    let gathered = json_gathered files facts front.public n project front.graph mid made c.in_ok-edges.edges.items refl c.into_parts-graph.ensures.well_made c.into_parts-graph.ensures.within made_are adds wants in
    gathered_lacks front.graph mid (json_rows files facts front.public n project) c.in_ok-edges.edges.items gathered c.keep_edges.new.graph c.in_ok-keep_edges.ensures.keeps
