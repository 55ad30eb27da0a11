use Rattle.std.proofs.Common.{◌≡◌, List, [], ◌∷◌, ◌++◌, length, Ok, ap, append_assoc, arith, refl, rules, sym, ◌∙◌}
use Rattle.std.proofs.lemmas.Result.{err_from_is_err_and}
use Rattle.cargo_meta_values.specs.declared.target.Target.{Target}
use Rattle.pm_cargo_packages.specs.declared.package.PackageData.{PackageData}
use Rattle.pm_cargo_reading.specs.Packages.{take_target}
use Rattle.pm_cargo_reading.proofs.ContentsLemmas.{targets-short}
use Rattle.pm_cargo_reading.proofs.ReadingLemmas.{take_each-more, take_each-none, take_each-stopped}
use Rattle.pm_cargo_reading.proofs.TakingLemmas.{target-moved}
use Rattle.pm_cargo_reading.proofs.contents.ContentsBuilder.push_targets.Goals as goal

pub loop-target-init : goal.loop-target-init
loop-target-init c = record {
  done = take_each-none (take_target c.args.limit (length c.args.self.now.packages) c.args.manifest.now) c.args.self.now.targets;
  packages = refl;
  all = refl;
}

pub loop-target-preserved : goal.loop-target-preserved
loop-target-preserved c =
    let before = c.loop-target.invariant in
    let step = take_target c.args.limit (length c.args.self.now.packages) c.args.manifest.now in
    let next : step c.loop-target.self.targets c.in-Some.target ≡ Ok c.push_target.new.self.targets =
    ap (λ (ps : List PackageData). take_target c.args.limit (length ps) c.args.manifest.now c.loop-target.self.targets c.in-Some.target) (sym before.packages)
    ∙ c.in_ok-push_target.ensures.exact in
    record {
      done = take_each-more step c.args.self.now.targets c.loop-target.self.targets c.push_target.new.self.targets c.loop-target.yielded c.in-Some.target before.done next;
      packages = c.in_ok-push_target.ensures.packages ∙ before.packages;
      all = before.all
          ∙ ap (λ (items : List Target). c.loop-target.yielded ++ items) c.in-Some.ensures.steps.0
          ∙ sym (append_assoc c.loop-target.yielded (c.in-Some.target ∷ []) c.next.new.self.rest.items);
    }

pub returns-in_err-push_target-clause-exact : goal.returns-in_err-push_target-clause-exact
returns-in_err-push_target-clause-exact c =
    let before = c.loop-target.invariant in
    let p = err_from_is_err_and c.from_residual.result c.from_residual.ensures.1 in
    let all : c.args.targets ≡ c.into_iter-target-iterator.result.rest.items = search rules in
    rw (p.1, p.2) (take_each-stopped (take_target c.args.limit (length c.args.self.now.packages) c.args.manifest.now) _
    c.args.self.now.targets c.loop-target.self.targets c.args.targets c.loop-target.yielded c.in-Some.target c.next.new.self.rest.items
    (all ∙ before.all ∙ ap (λ (items : List Target). c.loop-target.yielded ++ items) c.in-Some.ensures.steps.0) before.done
    (target-moved _ c.args.limit (length c.loop-target.self.packages) (length c.args.self.now.packages) c.args.manifest.now c.loop-target.self.targets c.in-Some.target
    (ap length before.packages) c.in_err-push_target.ensures.exact))

pub returns-clause-short : goal.returns-clause-short
returns-clause-short c = λ short.
    let before = c.loop-target.invariant in
    targets-short c.args.limit (length c.args.self.now.packages) c.args.manifest.now (omega (arith, c.ranges.limit)) c.args.self.now.targets c.loop-target.self.targets c.loop-target.yielded short before.done
