use Rattle.std.proofs.Common.{◌≡◌, slice_get, Some}
use Rattle.std.proofs.lemmas.Result.{err_from_is_err_and}
use Rattle.pm_lower_crates.specs.WantedEdges.{bad_names_of}
use Rattle.pm_lower_crates.proofs.EdgeLemmas.{first_bad, bad_weaker}
use Rattle.pm_lower_crates.proofs.edges.wanted_edges.Goals as goal

pub returns-in_err-add_dependencies-clause-bad : goal.returns-in_err-add_dependencies-clause-bad
returns-in_err-add_dependencies-clause-bad c =
    let p = err_from_is_err_and c.from_residual-in_err-add_dependencies.result c.from_residual-in_err-add_dependencies.ensures.1 in
    let owners = c.args.owners.now in
    rw (p.1, p.2) (bad_weaker c.in_err-add_dependencies.field-0.0 (λ name. slice_get (bad_names_of owners c.from-item.result) 0 ≡ Some name) _
    (λ name h. first_bad (bad_names_of owners) owners c.loop-from.from-index c.from-item.result name c.loop-from-test.true c.from-item.is c.loop-from.invariant.good h)
    c.in_err-add_dependencies.ensures.bad)
