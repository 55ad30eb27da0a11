use Rattle.std.proofs.Common.{◌≡◌, List, [], ◌∷◌, ◌++◌, length, Ok, ap, arith, append_assoc, refl, rules, sym, ◌∙◌}
use Rattle.std.proofs.lemmas.Result.{err_from_is_err_and}
use Rattle.cargo_meta.specs.declared.package.Package.{Package}
use Rattle.pm_cargo_reading.specs.Packages.{take_package}
use Rattle.pm_cargo_reading.proofs.ReadingLemmas.{take_each-more, take_each-none, take_each-stopped}
use Rattle.pm_cargo_reading.proofs.contents.take_packages.Goals as goal

pub loop-package-init : goal.loop-package-init
loop-package-init c = record {
  done = take_each-none (take_package c.args.members.now c.args.limits.now) (record { packages = []; targets = [] })
      ∙ (λ i. Ok (record { packages = sym c.new.ensures.items i; targets = sym c.new-2.ensures.items i }));
  packages = omega (arith, ap length c.new.ensures.items);
  targets = omega (arith, ap length c.new-2.ensures.items);
  all = refl;
}

pub loop-package-preserved : goal.loop-package-preserved
loop-package-preserved c =
    let before = c.loop-package.invariant in
    let step = take_package c.args.members.now c.args.limits.now in
    record {
      done = take_each-more step (record { packages = []; targets = [] }) c.loop-package.contents c.push_package.new.self c.loop-package.yielded c.in-Some.package before.done c.in_ok-push_package.ensures.exact;
      packages = c.in_ok-push_package.ensures.packages;
      targets = c.in_ok-push_package.ensures.targets;
      all = before.all
          ∙ ap (λ (items : List Package). c.loop-package.yielded ++ items) c.in-Some.ensures.steps.0
          ∙ sym (append_assoc c.loop-package.yielded (c.in-Some.package ∷ []) c.next.new.self.rest.items);
    }

pub returns-in_err-push_package-clause-exact : goal.returns-in_err-push_package-clause-exact
returns-in_err-push_package-clause-exact c =
    let before = c.loop-package.invariant in
    let p = err_from_is_err_and c.from_residual.result c.from_residual.ensures.1 in
    let all : c.args.packages.items ≡ c.into_iter-package-iterator.result.rest.items = search rules in
    rw (p.1, p.2) (take_each-stopped (take_package c.args.members.now c.args.limits.now) _
    (record { packages = []; targets = [] }) c.loop-package.contents c.args.packages.items c.loop-package.yielded c.in-Some.package c.next.new.self.rest.items
    (all ∙ before.all ∙ ap (λ (items : List Package). c.loop-package.yielded ++ items) c.in-Some.ensures.steps.0) before.done
    c.in_err-push_package.ensures.exact)
