use Rattle.std.proofs.Common.{◌≡◌, length, ap, arith, sym, ◌∙◌}
use Rattle.std.proofs.lemmas.Result.{err_from_is_err_and}
use Rattle.pm_cargo_reading.specs.declared.contents.Contents.{Contents}
use Rattle.pm_cargo_reading.specs.Packages.{ids_between, absolute_manifest, take_target}
use Rattle.base_values.specs.Outcome.{take_each}
use Rattle.pm_cargo_reading.proofs.TakingLemmas.{package-no_manifest, package-no_targets, package-too_many}
use Rattle.pm_cargo_reading.proofs.contents.ContentsBuilder.take_parts.Goals as goal

pub returns-then-len-limits-clause-refused : goal.returns-then-len-limits-clause-refused
returns-then-len-limits-clause-refused c =
    package-too_many c.args.members.now c.args.limits.now c.args.self.now c.args.package.now
    (omega (arith, c.if-len-limits.true, c.len.ensures, ap (λ s. length s.packages) c.self.view_is))

pub returns-in_err-manifest-clause-refused : goal.returns-in_err-manifest-clause-refused
returns-in_err-manifest-clause-refused c =
    let p = err_from_is_err_and c.from_residual.result c.from_residual.ensures.1 in
    rw (p.1, p.2) (package-no_manifest c.args.members.now c.args.limits.now c.args.self.now c.args.package.now _ c.as_str.result.now c.as_str.ensures
    (omega (arith, c.if-len-limits.false, c.len.ensures, ap (λ s. length s.packages) c.self.view_is)) c.in_err-manifest.ensures)

pub returns-in_err-push_targets-clause-refused : goal.returns-in_err-push_targets-clause-refused
returns-in_err-push_targets-clause-refused c =
    let p = err_from_is_err_and c.from_residual-in_err-push_targets.result c.from_residual-in_err-push_targets.ensures.1 in
    rw (p.1, p.2) (package-no_targets c.args.members.now c.args.limits.now c.args.self.now c.args.package.now _ c.in_ok-manifest.manifest c.replace-targets.result c.replace-targets.ensures.value
    (omega (arith, c.if-len-limits.false, c.len.ensures, ap (λ s. length s.packages) c.self.view_is))
    (ap absolute_manifest (sym c.as_str.ensures) ∙ c.in_ok-manifest.ensures) c.in_err-push_targets.ensures.exact)

pub ids_between-requires : goal.ids_between-requires
ids_between-requires c =
    omega (arith, c.len-2.ensures, ap (λ s. length s.targets) c.self-2.view_is, c.in_ok-push_targets.ensures.short c.requires.short)

pub returns-clause-parts : goal.returns-clause-parts
returns-clause-parts c =
    let before = c.args.self.now in
    let targets = c.push_targets.new.self.targets in
    let first : c.len-first.result ≡ length before.targets = omega (arith, c.len-first.ensures, ap (λ (s : Contents). length s.targets) c.self.view_is) in
    let end : c.len-2.result ≡ length targets = omega (arith, c.len-2.ensures, ap (λ (s : Contents). length s.targets) c.self-2.view_is) in
    record {
      room = omega (arith, c.if-len-limits.false, c.len.ensures, ap (λ s. length s.packages) c.self.view_is);
      manifest = ap absolute_manifest (sym c.as_str.ensures) ∙ c.in_ok-manifest.ensures;
      taken = ap (take_each (take_target c.args.limits.now.targets (length before.packages) c.in_ok-manifest.manifest) before.targets) (sym c.replace-targets.ensures.value) ∙ c.in_ok-push_targets.ensures.exact;
      few = omega (arith, c.if-len-limits.false, c.len.ensures, ap (λ s. length s.packages) c.self.view_is);
      short = c.in_ok-push_targets.ensures.short c.requires.short;
      id = c.in_ok-take_id.ensures;
      is_member = c.is_listed-is_member.ensures;
      ids = c.in_ok-targets.ensures ∙ (λ i. ids_between (first i) (end i));
    }
