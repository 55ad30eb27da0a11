use Rattle.std.proofs.Common.{◌≡◌, ◌+◌, ◌<◌, ◌∙◌, ◌∷◌, ap, arith, drop, get_or, length, subst}
use Rattle.std.specs.Option.{option_map}
use Rattle.std.proofs.lemmas.Result.{err_from_is_err_and}
use Rattle.base_text_paths.specs.AbsPath.{abs_text}
use Rattle.pm_json.specs.Queries.{crates_in}
use Rattle.pm_lower_crates.specs.Loader.{file_number}
use Rattle.pm_lower_crates.specs.Facts.{facts_of}
use Rattle.pm_lower_crates.proofs.RowLemmas.{drop_next, limit_weaker}
use Rattle.pm_lower_crates.specs.JsonRows.{row_in, json_row}
use Rattle.pm_lower_crates.proofs.JsonRowLemmas.{Gathers, file_found, gathers_full, gathers_more}
use Rattle.pm_lower_crates.proofs.json_gathering.add_rows.Goals as goal

pub returns-in_err-add_row-clause-full : goal.returns-in_err-add_row-clause-full
returns-in_err-add_row-clause-full g c =
    let files = g.L.Loader.files c.args.loader.now in
    let project = c.args.project.now.json.now in
    let facts = facts_of g.O.BuildOutputs.output_at g.O.BuildOutputs.is_failed c.args.project.now.facts.now in
    let crates = crates_in project in
    let k = c.krate-item.result in
    let i = c.loop-place.place in
    let mid = c.loop-place.graph in
    let p = err_from_is_err_and c.from_residual-in_err-add_row.result c.from_residual-in_err-add_row.ensures.1 in
    let same : c.as_slice-krate-items.result.now ≡ crates = c.as_slice-krate-items.ensures in
    let within : i < length crates = omega (arith, c.loop-place-test.true, ap length same) in
    let here : k ≡ get_or crates i k = c.krate-item.is ∙ ap (λ ks. get_or ks i k) same in
    let file : c.in_ok-file.file ≡ file_number files k.root_module =
    file_found files (g.L.Loader.files c.loop-place.loader) (abs_text c.as_path.result) k.root_module c.in_ok-file.file c.in_ok-file.ensures.found c.loop-place.invariant.loader c.as_path.ensures in
    let before : Gathers files facts project crates c.args.graph.now i (k ∷ drop (i + 1) crates) mid c.loop-place.rows.items =
    subst (λ r. Gathers files facts project crates c.args.graph.now i r mid c.loop-place.rows.items) (drop_next crates i k within here) c.loop-place.invariant.gathered in
    rw (p.1, p.2) (limit_weaker c.in_err-add_row.field-0.0 _ _
    (λ full. gathers_full files facts project crates c.args.graph.now i k (drop (i + 1) crates) mid c.loop-place.rows.items c.in_ok-file.file file full before)
    c.in_err-add_row.ensures.full)

pub loop-place-preserved : goal.loop-place-preserved
unfolding json_row
loop-place-preserved g c =
    let files = g.L.Loader.files c.args.loader.now in
    let project = c.args.project.now.json.now in
    let facts = facts_of g.O.BuildOutputs.output_at g.O.BuildOutputs.is_failed c.args.project.now.facts.now in
    let crates = crates_in project in
    let k = c.krate-item.result in
    let i = c.loop-place.place in
    let mid = c.loop-place.graph in
    let same : c.as_slice-krate-items.result.now ≡ crates = c.as_slice-krate-items.ensures in
    let within : i < length crates = omega (arith, c.loop-place-test.true, ap length same) in
    let here : k ≡ get_or crates i k = c.krate-item.is ∙ ap (λ ks. get_or ks i k) same in
    let file : c.in_ok-file.file ≡ file_number files k.root_module =
    file_found files (g.L.Loader.files c.loop-place.loader) (abs_text c.as_path.result) k.root_module c.in_ok-file.file c.in_ok-file.ensures.found c.loop-place.invariant.loader c.as_path.ensures in
    let row : c.in_ok-add_row.field-0 ≡ json_row files i (length mid.crates) k = c.in_ok-add_row.ensures.row ∙ ap (option_map (row_in i (length mid.crates) k)) file in
    let before : Gathers files facts project crates c.args.graph.now i (k ∷ drop (i + 1) crates) mid c.loop-place.rows.items =
    subst (λ r. Gathers files facts project crates c.args.graph.now i r mid c.loop-place.rows.items) (drop_next crates i k within here) c.loop-place.invariant.gathered in
    record {
      gathered = gathers_more files facts project crates c.args.graph.now i k (drop (i + 1) crates) mid c.add_row.new.graph c.loop-place.rows.items c.push.new.self.items c.in_ok-add_row.field-0
          row c.in_ok-add_row.ensures.added c.in_ok-push.ensures.items before;
      loader = c.in_ok-file.ensures.same ∙ c.loop-place.invariant.loader;
    }
