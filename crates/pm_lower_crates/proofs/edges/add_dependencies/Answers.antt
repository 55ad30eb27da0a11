use Rattle.std.proofs.Common.{◌≡◌, [], ◌∷◌, true, false, sym, ap, ◌∙◌, slice_get}
use Rattle.std.proofs.lemmas.Result.{err_from_is_err_and}
use Rattle.pm_lower_crates.specs.Gathering.{to_dependency}
use Rattle.pm_lower_crates.specs.WantedEdges.{bad_name_of}
use Rattle.pm_lower_crates.proofs.EdgeLemmas.{part_more, part_all, good_more, good_all, first_bad, bad_weaker, all_dependencies, all_names}
use Rattle.pm_lower_crates.proofs.edges.add_dependencies.Goals as goal

pub loop-dependency-preserved : goal.loop-dependency-preserved
loop-dependency-preserved c =
    let owners = c.args.owners.now in
    let from = c.args.from.now in
    let xs = c.as_slice-dependency-items.result.now in
    let i = c.loop-dependency.dependency-index in
    let d = c.dependency-item.result in
    record {
      edges = part_more (to_dependency false owners from) c.args.edges.now.items c.loop-dependency.edges.items c.add_dependency.new.edges.items xs i d c.loop-dependency-test.true c.dependency-item.is c.loop-dependency.invariant.edges c.in_ok-add_dependency.ensures.edges;
      delayed = part_more (to_dependency true owners from) c.args.delayed.now.items c.loop-dependency.delayed.items c.add_dependency.new.delayed.items xs i d c.loop-dependency-test.true c.dependency-item.is c.loop-dependency.invariant.delayed c.in_ok-add_dependency.ensures.delayed;
      good = good_more (bad_name_of owners from) xs i d c.loop-dependency-test.true c.dependency-item.is c.loop-dependency.invariant.good c.in_ok-add_dependency.ensures.good;
    }

pub returns-clause-edges : goal.returns-clause-edges
returns-clause-edges c =
    all_dependencies false c.args.owners.now c.args.from.now c.args.edges.now.items c.loop-dependency.edges.items c.as_slice-dependency-items.result.now (c.as_slice-dependency-items.ensures ∙ ap (λ p. p.dependencies) c.of.ensures)
    (part_all (to_dependency false c.args.owners.now c.args.from.now) c.args.edges.now.items c.loop-dependency.edges.items c.as_slice-dependency-items.result.now c.loop-dependency.dependency-index c.loop-dependency-test.false c.loop-dependency.invariant.edges)

pub returns-clause-delayed : goal.returns-clause-delayed
returns-clause-delayed c =
    all_dependencies true c.args.owners.now c.args.from.now c.args.delayed.now.items c.loop-dependency.delayed.items c.as_slice-dependency-items.result.now (c.as_slice-dependency-items.ensures ∙ ap (λ p. p.dependencies) c.of.ensures)
    (part_all (to_dependency true c.args.owners.now c.args.from.now) c.args.delayed.now.items c.loop-dependency.delayed.items c.as_slice-dependency-items.result.now c.loop-dependency.dependency-index c.loop-dependency-test.false c.loop-dependency.invariant.delayed)

pub returns-clause-good : goal.returns-clause-good
returns-clause-good c =
    sym (all_names c.args.owners.now c.args.from.now c.as_slice-dependency-items.result.now (c.as_slice-dependency-items.ensures ∙ ap (λ p. p.dependencies) c.of.ensures))
    ∙ good_all (bad_name_of c.args.owners.now c.args.from.now) c.as_slice-dependency-items.result.now c.loop-dependency.dependency-index c.loop-dependency-test.false c.loop-dependency.invariant.good

pub returns-in_err-add_dependency-clause-bad : goal.returns-in_err-add_dependency-clause-bad
returns-in_err-add_dependency-clause-bad c =
    let p = err_from_is_err_and c.from_residual.result c.from_residual.ensures.1 in
    let owners = c.args.owners.now in
    let from = c.args.from.now in
    let d = c.dependency-item.result in
    let xs = c.as_slice-dependency-items.result.now in
    rw (p.1, p.2) (bad_weaker c.in_err-add_dependency.field-0.0 (λ name. bad_name_of owners from d ≡ name ∷ []) _
    (λ name h. ap (λ names. slice_get names 0) (sym (all_names owners from xs (c.as_slice-dependency-items.ensures ∙ ap (λ p. p.dependencies) c.of.ensures)))
    ∙ first_bad (bad_name_of owners from) xs c.loop-dependency.dependency-index d name c.loop-dependency-test.true c.dependency-item.is c.loop-dependency.invariant.good (ap (λ names. slice_get names 0) h))
    c.in_err-add_dependency.ensures.bad)
