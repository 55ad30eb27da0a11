use Rattle.std.proofs.Common.{◌≡◌, ◌+◌, ◌∙◌, [], ◌∷◌, ◌++◌, Some, cond, ap, drop, length, slice_get, subst, sym}
use Rattle.std.specs.Option.{option_map}
use Rattle.base_text_paths.specs.Arena.{number_of}
use Rattle.pm_lower_crates.specs.Facts.{facts_of}
use Rattle.pm_lower_crates.specs.Gathering.{AddsRows, found_target}
use Rattle.pm_lower_crates.specs.Rows.{is_lib, row_at}
use Rattle.pm_lower_crates.proofs.RowLemmas.{Gathers, drop_next, gathers_past, gathers_row, none_found, some_found}
use Rattle.pm_lower_crates.proofs.gathering.add_package.Goals.{in-Some+in_ok-add_crate+in_ok-push, then-is_lib, else-is_lib, in_default}
use Rattle.pm_lower_crates.proofs.gathering.add_package.Goals as goal

pub loop-place-preserved : goal.loop-place-preserved
loop-place-preserved g c =
    let w = c.args.project.now.workspace.now in
    let facts = facts_of g.O.BuildOutputs.output_at g.O.BuildOutputs.is_failed c.args.project.now.facts.now in
    let p = number_of c.args.id in
    let of = c.args.of.now in
    let files = c.args.files.now in
    let place = c.loop-place.place in
    let file = c.index-files-place.result in
    let old = c.args.graph.now in
    let mid = c.loop-place.graph in
    let rows = c.loop-place.rows.items in
    let lib = c.loop-place.library in
    let rest = drop (place + 1) files in
    let found = found_target w (slice_get of.targets place) file in
    let before : Gathers facts w p of files (place, file ∷ rest) old mid rows lib =
    subst (λ r. Gathers facts w p of files (place, r) old mid rows lib) (drop_next files place file c.loop-place-test.true c.index-files-place.is) c.loop-place.invariant in
    let made : c.row_of.result ≡ option_map (λ t. row_at p of (place, t.0, t.1) (length mid.crates)) found =
    c.row_of.ensures ∙ ap (λ n. option_map (λ t. row_at p of (place, t.0, t.1) n) found) c.len-number.ensures.length in
    elim c.match-row_of.branch [
      | in-Some+in_ok-add_crate+in_ok-push v ↦
          let row = v.in-Some.row in
          let live = some_found (λ t. row_at p of (place, t.0, t.1) (length mid.crates)) found row (sym v.in-Some.is ∙ made) in
          let adds : AddsRows facts w mid c.match-row_of.graph (row ∷ []) = subst (λ g. AddsRows facts w mid g (row ∷ [])) (sym v.graph-is) v.in_ok-add_crate.ensures.added in
          let more : c.match-row_of.rows.items ≡ rows ++ row ∷ [] = ap (λ r. r.items) v.rows-is ∙ v.in_ok-push.ensures.items in
          let its : is_lib row.target.kind ≡ v.is_lib.result = sym (v.is_lib.ensures ∙ ap (λ t. is_lib t.kind) v.target.ensures) in
          let last : c.match-row_of.library ≡ cond v.is_lib.result (Some row) lib = elim v.if-is_lib.branch [
            | then-is_lib u ↦ v.library-is ∙ u.library-is ∙ ap Some u.copy.ensures ∙ ap (λ b. cond b (Some row) lib) (sym u.if-is_lib.true)
            | else-is_lib u ↦ v.library-is ∙ u.library-is ∙ ap (λ b. cond b (Some row) lib) (sym u.if-is_lib.false)
          ] in
          gathers_row facts w p of files place file rest old mid c.match-row_of.graph rows c.match-row_of.rows.items lib c.match-row_of.library v.is_lib.result live.0 row live.1 its live.2 adds more last before
      | in_default v ↦
          let none = none_found (λ t. row_at p of (place, t.0, t.1) (length mid.crates)) found (sym v.in_default.is ∙ made) in
          rw (v.graph-is, v.rows-is, v.library-is) (gathers_past facts w p of files place file rest old mid rows lib none before)
    ]
