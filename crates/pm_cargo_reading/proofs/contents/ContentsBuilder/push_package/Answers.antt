use Rattle.std.proofs.Common.{◌≡◌, [], ◌∷◌, ◌++◌, length, Ok, ap, arith, length-append, sym, ◌∙◌}
use Rattle.std.proofs.lemmas.Result.{err_from_is_err_and}
use Rattle.pm_cargo_packages.specs.declared.package.PackageData.{PackageData}
use Rattle.pm_cargo_reading.specs.declared.contents.Contents.{Contents}
use Rattle.pm_cargo_reading.specs.Packages.{unresolved_package}
use Rattle.pm_cargo_reading.proofs.TakingLemmas.{package-added}
use Rattle.pm_cargo_reading.proofs.contents.ContentsBuilder.push_package.Goals as goal

pub returns-in_err-parts-clause-exact : goal.returns-in_err-parts-clause-exact
returns-in_err-parts-clause-exact c =
    let p = err_from_is_err_and c.from_residual.result c.from_residual.ensures.1 in
    rw (p.1, p.2) c.in_err-parts.ensures.refused

pub returns-clause-exact : goal.returns-clause-exact
returns-clause-exact c =
    let before = c.args.self.now in
    let parts = c.in_ok-parts.ensures.parts in
    let document = c.args.package in
    let targets = c.take_parts.new.self.targets in
    let olds : c.self.inside.packages.items ≡ before.packages = ap (λ (s : Contents). s.packages) c.self.view_is ∙ c.in_ok-parts.ensures.packages in
    let news : c.self.inside.targets.items ≡ targets = ap (λ (s : Contents). s.targets) c.self.view_is in
    package-added c.args.members.now c.args.limits.now before document c.in_ok-parts.parts.manifest targets parts.room parts.manifest parts.taken
    ∙ sym (λ i. Ok (record {
      packages = (c.in_ok-push.ensures.items ∙ (λ j. olds j ++ (c.unresolved_package-data.ensures ∙ (λ k. unresolved_package (parts.is_member k) c.in_ok-parts.parts.manifest (parts.ids k) (record (c.in_ok-parts.ensures.others k) { id = parts.id k }))) j ∷ [])) i;
      targets = news i;
    }))

pub returns-clause-targets : goal.returns-clause-targets
returns-clause-targets c =
    omega (arith, ap (λ s. length s.targets) c.self.view_is, c.in_ok-parts.ensures.parts.short)

pub returns-clause-packages : goal.returns-clause-packages
returns-clause-packages c =
    let olds : length c.self.inside.packages.items ≡ length c.args.self.now.packages =
    ap (λ (s : Contents). length s.packages) c.self.view_is ∙ ap length c.in_ok-parts.ensures.packages in
    omega (
      arith,
      c.in_ok-parts.ensures.parts.few,
      olds,
      ap length c.in_ok-push.ensures.items,
      length-append {A = PackageData},
    )
