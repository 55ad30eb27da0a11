use Rattle.std.proofs.Common.{◌≡◌, ◌<◌, ◌++◌, length, Ok, ap, arith, sym, ◌∙◌}
use Rattle.std.proofs.lemmas.Result.{err_from_is_err_and}
use Rattle.pm_cargo_reading.specs.Nodes.{kinds_of, with_kinds}
use Rattle.pm_cargo_reading.proofs.NodeLemmas.{dependency-added, dependency-none, dependency-unknown}
use Rattle.pm_cargo_reading.proofs.WithinLemmas.{known_place-within}
use Rattle.pm_cargo_reading.proofs.nodes.push_dependency.Goals as goal

pub returns-then-is_empty : goal.returns-then-is_empty
returns-then-is_empty c =
    let none : length c.in_ok-kinds.kinds.items ≡ 0 = grind (arith, c.if-is_empty.ensures) in
    dependency-none c.args.packages.now c.args.dependencies.now.items c.args.dep.now c.in_ok-kinds.kinds.items (c.in_ok-kinds.ensures ∙ ap kinds_of c.as_slice.ensures) none

pub returns-in_err-place : goal.returns-in_err-place
returns-in_err-place c =
    let some : 0 < length c.in_ok-kinds.kinds.items = grind (arith, c.if-is_empty.ensures) in
    let p = err_from_is_err_and c.from_residual-in_err-place.result c.from_residual-in_err-place.ensures.1 in
    rw (p.1, p.2) (dependency-unknown c.args.packages.now c.args.dependencies.now.items c.args.dep.now _ c.in_ok-kinds.kinds.items
    (c.in_ok-kinds.ensures ∙ ap kinds_of c.as_slice.ensures) some c.in_err-place.ensures)

pub push_kinds-requires : goal.push_kinds-requires
push_kinds-requires c =
    omega (arith, known_place-within c.args.packages.now c.args.dep.now.pkg.repr c.in_ok-place.place c.in_ok-place.ensures, c.requires.short)

pub returns : goal.returns
returns c =
    let some : 0 < length c.in_ok-kinds.kinds.items = grind (arith, c.if-is_empty.ensures) in
    dependency-added c.args.packages.now c.args.dependencies.now.items c.args.dep.now c.in_ok-place.place c.in_ok-kinds.kinds.items
    (c.in_ok-kinds.ensures ∙ ap kinds_of c.as_slice.ensures) some c.in_ok-place.ensures
    ∙ ap Ok (sym (c.in_ok-push_kinds.ensures ∙ ap (λ kinds. c.args.dependencies.now.items ++ with_kinds c.in_ok-place.place c.args.dep.now.name kinds) c.as_slice-2.ensures.value))
