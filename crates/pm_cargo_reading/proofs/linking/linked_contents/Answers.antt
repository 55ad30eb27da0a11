use Rattle.std.proofs.lemmas.Result.{err_from_is_err_and}
use Rattle.pm_cargo_reading.specs.Nodes.{nodes_of}
use Rattle.pm_cargo_reading.proofs.LinkedLemmas.{contents-linked, contents-no_links, contents-no_packages}
use Rattle.pm_cargo_reading.proofs.HoldsLemmas.{contents-taken, linked-holds}
use Rattle.pm_cargo_reading.proofs.linking.linked_contents.Goals as goal

pub returns-in_err-contents-clause-exact : goal.returns-in_err-contents-clause-exact
returns-in_err-contents-clause-exact c =
    let p = err_from_is_err_and c.from_residual.result c.from_residual.ensures.1 in
    rw (p.1, p.2) (contents-no_packages c.args.members c.args.limits.now c.args.packages (nodes_of c.args.resolve) _ c.in_err-contents.ensures.exact)

pub returns-in_err-packages-clause-exact : goal.returns-in_err-packages-clause-exact
returns-in_err-packages-clause-exact c =
    let p = err_from_is_err_and c.from_residual-in_err-packages.result c.from_residual-in_err-packages.ensures.1 in
    rw (p.1, p.2) (contents-no_links c.args.members c.args.limits.now c.args.packages (nodes_of c.args.resolve) _ c.in_ok-contents.contents c.in_ok-contents.ensures.exact c.in_err-packages.ensures)

pub returns-clause-exact : goal.returns-clause-exact
returns-clause-exact c =
    contents-linked c.args.members c.args.limits.now c.args.packages (nodes_of c.args.resolve) c.in_ok-contents.contents c.in_ok-packages.packages c.in_ok-contents.ensures.exact c.in_ok-packages.ensures

pub returns-clause-present : goal.returns-clause-present
returns-clause-present c =
    linked-holds c.in_ok-contents.contents (nodes_of c.args.resolve) c.in_ok-packages.packages c.in_ok-contents.ensures.short
    (contents-taken c.args.members c.args.limits.now c.in_ok-contents.contents c.args.packages c.in_ok-contents.ensures.exact) c.in_ok-packages.ensures
