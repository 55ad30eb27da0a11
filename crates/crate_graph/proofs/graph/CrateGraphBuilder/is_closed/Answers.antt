use Rattle.std.proofs.Common.{◌<◌, ◌∙◌, inl, inr, arith, get_or, length, map, refl, subst, sym}
use Rattle.std.proofs.lemmas.Bool.{cases_eq, false≢true}
use Rattle.std.proofs.lemmas.List.{get_or-map, length-map}
use Rattle.base_text_paths.specs.Arena.{number_of}
use Rattle.crate_graph.specs.Graph.{edges}
use Rattle.crate_graph.specs.Prune.{Stays}
use Rattle.crate_graph.proofs.PruneLemmas.{closed_from, named_at, stays_from}
use Rattle.crate_graph.proofs.graph.CrateGraphBuilder.is_closed.Goals as goal

pub returns-then-not-stays : goal.returns-then-not-stays
returns-then-not-stays c =
    let ids = c.args.to_keep.now in
    let keep = map number_of c.args.to_keep.now in
    let at = get_or-map number_of ids c.loop-id.id-index _ 0 c.loop-id-test.true in
    let long : c.loop-id.id-index < length (map number_of c.args.to_keep.now) = omega (arith, c.loop-id-test.true, length-map ids number_of) in (
      λ yes. absurd (false≢true yes),
      λ whole. sym c.if-not-stays.true ∙ c.stays.ensures.1 (stays_from (edges c.args.self.now.crates) keep _ whole (named_at keep c.loop-id.id-index _ long at)),
    )

pub loop-id-preserved : goal.loop-id-preserved
loop-id-preserved c = λ k less.
    let ids = c.args.to_keep.now in
    let keep = map number_of c.args.to_keep.now in
    let g = edges c.args.self.now.crates in
    let at = get_or-map number_of ids c.loop-id.id-index _ 0 c.loop-id-test.true in
    let here : Stays g keep (get_or keep c.loop-id.id-index 0) = subst (Stays g keep) (sym at) (c.stays.ensures.0 c.if-not-stays.false) in
    elim (cases_eq k c.loop-id.id-index) [
      | inl same ↦ subst (λ m. Stays g keep (get_or keep m 0)) (sym same) here
      | inr other ↦ c.loop-id.invariant k (omega (arith, less, other))
    ]

pub returns : goal.returns
returns c =
    let ids = c.args.to_keep.now in (
      λ _. closed_from (edges c.args.self.now.crates) (map number_of ids) (λ k less. c.loop-id.invariant k (omega (arith, less, length-map ids number_of, c.loop-id-test.false))),
      λ _. refl,
    )
