use Rattle.std.proofs.Common.{◌≡◌, [], Ok, ap, arith, sym, ◌∙◌}
use Rattle.std.proofs.lemmas.Result.{err_from_is_err_and}
use Rattle.pm_cargo_reading.specs.Nodes.{take_dependency}
use Rattle.base_values.specs.Outcome.{take_each}
use Rattle.pm_cargo_reading.proofs.NodeLemmas.{link-is, link-no_dependencies, link-unknown}
use Rattle.pm_cargo_reading.proofs.ReadingLemmas.{refuses_same}
use Rattle.pm_cargo_reading.proofs.WithinLemmas.{known_place-within}
use Rattle.pm_cargo_reading.proofs.nodes.link_of.Goals as goal

pub returns-in_err-place : goal.returns-in_err-place
returns-in_err-place c =
    let p = err_from_is_err_and c.from_residual.result c.from_residual.ensures.1 in
    rw (p.1, p.2) (link-unknown c.args.packages.now c.args.node _ c.in_err-place.ensures)

pub returns-in_err-dependencies : goal.returns-in_err-dependencies
returns-in_err-dependencies c =
    let p = err_from_is_err_and c.from_residual-in_err-dependencies.result c.from_residual-in_err-dependencies.ensures.1 in
    rw (p.1, p.2) (link-no_dependencies c.args.packages.now c.args.node _ c.in_ok-place.place c.in_ok-place.ensures
    (refuses_same _ _ _ (ap (take_each (take_dependency c.args.packages.now) []) c.in_ok-deps.ensures) c.in_err-dependencies.ensures))

pub overflow_cast-place : goal.overflow_cast-place
overflow_cast-place c =
    omega (arith, known_place-within c.args.packages.now c.args.node.id.repr c.in_ok-place.place c.in_ok-place.ensures, c.requires.short)

pub returns : goal.returns
returns c =
    let place : c.from_raw.result.raw ≡ c.in_ok-place.place = omega (arith, c.from_raw.ensures) in
    link-is c.args.packages.now c.args.node c.in_ok-place.place c.in_ok-dependencies.dependencies c.in_ok-place.ensures
    (ap (take_each (take_dependency c.args.packages.now) []) (sym c.in_ok-deps.ensures) ∙ c.in_ok-dependencies.ensures)
    ∙ (λ i. Ok (record {
      source = record { raw = sym place i; tag = record {} };
      dependencies = c.in_ok-dependencies.dependencies;
      features = sym c.in_ok-features.ensures i;
    }))
