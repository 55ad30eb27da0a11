use Rattle.std.proofs.Common.{◌≡◌, ◌+◌, ◌<◌, ◌≤◌, ◌∙◌, [], Some, ap, arith, length, refl, slice_get, subst, sym}
use Rattle.std.proofs.lemmas.Result.{err_from_is_err_and}
use Rattle.crate_graph.specs.Graph.{Graph}
use Rattle.pm_lower_crates.specs.Facts.{facts_of}
use Rattle.pm_lower_crates.specs.Gathering.{AddsRows, edges_between, owners_by}
use Rattle.pm_lower_crates.specs.Lowering.{cargo_rows}
use Rattle.pm_lower_crates.specs.Rows.{rows_of}
use Rattle.pm_lower_crates.specs.WantedEdges.{bad_names_of_owners}
use Rattle.pm_lower_crates.proofs.CargoLemmas.{cargo_count, cargo_gathered, cargo_names, cargo_within}
use Rattle.pm_lower_crates.proofs.EdgeLemmas.{bad_weaker}
use Rattle.pm_lower_crates.proofs.GatheredLemmas.{gathered_fits, gathered_has, gathered_lacks}
use Rattle.pm_lower_crates.proofs.LoweringLemmas.{refuses_name, refuses_past}
use Rattle.pm_lower_crates.proofs.RowLemmas.{limit_weaker}
use Rattle.pm_lower_crates.proofs.lowering.graph_of.Goals as goal

pub add_rows-requires-clause-room : goal.add_rows-requires-clause-room
add_rows-requires-clause-room g c = subst (λ (old : Graph). length old.crates ≤ old.limit) (sym c.into_parts-graph.ensures.graph) c.into_parts-graph.ensures.well_made.within

pub returns-in_err-owners-clause-lowers : goal.returns-in_err-owners-clause-lowers
returns-in_err-owners-clause-lowers g c live are =
    let w = c.args.workspace.now in
    let files = c.args.files.now in
    let facts = facts_of g.O.BuildOutputs.output_at g.O.BuildOutputs.is_failed c.args.facts.now in
    let front = c.args.front in
    let n = length front.graph.crates in
    let e = c.in_err-owners.field-0.0 in
    let p = err_from_is_err_and c.from_residual.result c.from_residual.ensures.1 in
    let count = cargo_count live facts front.public n w files are in
    rw (p.1, p.2) (refuses_past front.graph.limit n (cargo_rows live facts front.public n w) e
    (limit_weaker e _ _
    (λ full. let past = subst (λ (old : Graph). old.limit < length old.crates + length (rows_of (owners_by w 0 (length old.crates) w.packages files))) c.into_parts-graph.ensures.graph full in
    omega (arith, past, count))
    c.in_err-owners.ensures.full))

pub returns-in_err-edges-clause-lowers : goal.returns-in_err-edges-clause-lowers
returns-in_err-edges-clause-lowers g c live are =
    let w = c.args.workspace.now in
    let files = c.args.files.now in
    let facts = facts_of g.O.BuildOutputs.output_at g.O.BuildOutputs.is_failed c.args.facts.now in
    let front = c.args.front in
    let n = length front.graph.crates in
    let part = cargo_rows live facts front.public n w in
    let made = c.in_ok-owners.owners.items in
    let mid = c.add_rows.new.graph in
    let e = c.in_err-edges.field-0.0 in
    let p = err_from_is_err_and c.from_residual-in_err-edges.result c.from_residual-in_err-edges.ensures.1 in
    let same = c.into_parts-graph.ensures.graph in
    let made_are : made ≡ owners_by w 0 n w.packages files = c.in_ok-owners.ensures.owners ∙ ap (λ (old : Graph). owners_by w 0 (length old.crates) w.packages files) same in
    let adds = subst (λ (old : Graph). AddsRows facts w old mid (rows_of made)) same c.in_ok-owners.ensures.added in
    let gathered = cargo_gathered live facts front.public n w files are front.graph mid made (edges_between front.public made) refl c.into_parts-graph.ensures.well_made c.into_parts-graph.ensures.within made_are adds refl in
    let names : bad_names_of_owners c.as_slice.result.now ≡ part.bad_names =
    ap bad_names_of_owners (c.as_slice.ensures.value ∙ made_are) ∙ cargo_names live facts front.public n w files are in
    rw (p.1, p.2) (refuses_name front.graph.limit n part e (gathered_fits front.graph mid part (edges_between front.public made) gathered)
    (bad_weaker e (λ name. slice_get (bad_names_of_owners c.as_slice.result.now) 0 ≡ Some name) _
    (λ name first. ap (λ ns. slice_get ns 0) (sym names) ∙ first) c.in_err-edges.ensures.bad))

pub keep_edges-requires : goal.keep_edges-requires
keep_edges-requires g c =
    let w = c.args.workspace.now in
    let files = c.args.files.now in
    let facts = facts_of g.O.BuildOutputs.output_at g.O.BuildOutputs.is_failed c.args.facts.now in
    let front = c.args.front in
    let made = c.in_ok-owners.owners.items in
    let mid = c.add_rows.new.graph in
    let same = c.into_parts-graph.ensures.graph in
    let made_are : made ≡ owners_by w 0 (length front.graph.crates) w.packages files =
    c.in_ok-owners.ensures.owners ∙ ap (λ (old : Graph). owners_by w 0 (length old.crates) w.packages files) same in
    let adds = subst (λ (old : Graph). AddsRows facts w old mid (rows_of made)) same c.in_ok-owners.ensures.added in
    let wants : c.in_ok-edges.edges.items ≡ edges_between front.public made =
    c.in_ok-edges.ensures.edges ∙ (λ i. edges_between (c.into_parts-graph.ensures.public i) (c.as_slice.ensures.value i)) in
    cargo_within facts front.public w files front.graph mid made c.in_ok-edges.edges.items c.into_parts-graph.ensures.within made_are adds wants

pub returns-clause-lowers : goal.returns-clause-lowers
returns-clause-lowers g c live are =
    let w = c.args.workspace.now in
    let files = c.args.files.now in
    let facts = facts_of g.O.BuildOutputs.output_at g.O.BuildOutputs.is_failed c.args.facts.now in
    let front = c.args.front in
    let n = length front.graph.crates in
    let part = cargo_rows live facts front.public n w in
    let made = c.in_ok-owners.owners.items in
    let mid = c.add_rows.new.graph in
    let same = c.into_parts-graph.ensures.graph in
    let made_are : made ≡ owners_by w 0 n w.packages files = c.in_ok-owners.ensures.owners ∙ ap (λ (old : Graph). owners_by w 0 (length old.crates) w.packages files) same in
    let adds = subst (λ (old : Graph). AddsRows facts w old mid (rows_of made)) same c.in_ok-owners.ensures.added in
    let wants : c.in_ok-edges.edges.items ≡ edges_between front.public made =
    c.in_ok-edges.ensures.edges ∙ (λ i. edges_between (c.into_parts-graph.ensures.public i) (c.as_slice.ensures.value i)) in
    let gathered = cargo_gathered live facts front.public n w files are front.graph mid made c.in_ok-edges.edges.items refl c.into_parts-graph.ensures.well_made c.into_parts-graph.ensures.within made_are adds wants in
    let good : part.bad_names ≡ [] =
    sym (ap bad_names_of_owners (c.as_slice.ensures.value ∙ made_are) ∙ cargo_names live facts front.public n w files are) ∙ c.in_ok-edges.ensures.good in
    gathered_has front.graph mid part c.in_ok-edges.edges.items gathered c.keep_edges.new.graph good c.in_ok-keep_edges.ensures.limit c.in_ok-keep_edges.ensures.behind

pub returns-clause-missing : goal.returns-clause-missing
returns-clause-missing g c live are =
    let w = c.args.workspace.now in
    let files = c.args.files.now in
    let facts = facts_of g.O.BuildOutputs.output_at g.O.BuildOutputs.is_failed c.args.facts.now in
    let front = c.args.front in
    let n = length front.graph.crates in
    let part = cargo_rows live facts front.public n w in
    let made = c.in_ok-owners.owners.items in
    let mid = c.add_rows.new.graph in
    let same = c.into_parts-graph.ensures.graph in
    let made_are : made ≡ owners_by w 0 n w.packages files = c.in_ok-owners.ensures.owners ∙ ap (λ (old : Graph). owners_by w 0 (length old.crates) w.packages files) same in
    let adds = subst (λ (old : Graph). AddsRows facts w old mid (rows_of made)) same c.in_ok-owners.ensures.added in
    let wants : c.in_ok-edges.edges.items ≡ edges_between front.public made =
    c.in_ok-edges.ensures.edges ∙ (λ i. edges_between (c.into_parts-graph.ensures.public i) (c.as_slice.ensures.value i)) in
    let gathered = cargo_gathered live facts front.public n w files are front.graph mid made c.in_ok-edges.edges.items refl c.into_parts-graph.ensures.well_made c.into_parts-graph.ensures.within made_are adds wants in
    gathered_lacks front.graph mid part c.in_ok-edges.edges.items gathered c.keep_edges.new.graph c.in_ok-keep_edges.ensures.keeps
