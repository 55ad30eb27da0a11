use Rattle.std.proofs.Common.{◌≡◌, [], ◌∷◌, ◌++◌, length, Ok, ap, arith, sym, ◌∙◌}
use Rattle.std.proofs.lemmas.Result.{err_from_is_err_and}
use Rattle.pm_cargo_packages.specs.TargetKinds.{target_kind}
use Rattle.pm_cargo_reading.proofs.TakingLemmas.{target-added, target-refused, target-too_many}
use Rattle.pm_cargo_reading.proofs.contents.ContentsBuilder.push_target.Goals as goal

pub returns-then-len-limit-clause-exact : goal.returns-then-len-limit-clause-exact
returns-then-len-limit-clause-exact c =
    target-too_many c.args.limit (length c.args.self.now.packages) c.args.manifest.now c.args.self.now.targets c.args.target
    (omega (arith, c.if-len-limit.true, c.len.ensures, ap (λ s. length s.targets) c.self.view_is))

pub returns-in_err-root-clause-exact : goal.returns-in_err-root-clause-exact
returns-in_err-root-clause-exact c =
    let p = err_from_is_err_and c.from_residual.result c.from_residual.ensures.1 in
    rw (p.1, p.2) (target-refused c.args.limit (length c.args.self.now.packages) c.args.manifest.now c.args.self.now.targets c.args.target _
    (omega (arith, c.if-len-limit.false, c.len.ensures, ap (λ s. length s.targets) c.self.view_is)) c.in_err-root.ensures)

pub returns-clause-exact : goal.returns-clause-exact
returns-clause-exact c =
    let place : c.from_raw.result.raw ≡ length c.args.self.now.packages = omega (arith, c.from_raw.ensures, c.len-2.ensures, ap (λ s. length s.packages) c.self.view_is) in
    let kind : c.target_kind_new.result ≡ target_kind c.args.target.kind = c.target_kind_new.ensures ∙ ap target_kind c.as_slice.ensures in
    target-added c.args.limit (length c.args.self.now.packages) c.args.manifest.now c.args.self.now.targets c.args.target c.in_ok-root.root
    (omega (arith, c.if-len-limit.false, c.len.ensures, ap (λ s. length s.targets) c.self.view_is)) c.in_ok-root.ensures
    ∙ ap Ok (sym (c.in_ok-push.ensures.items ∙ (λ i. (c.self.view_is i).targets ++ (record {
      «package» = record { raw = place i; tag = record {} };
      name = c.args.target.name;
      root = c.in_ok-root.root;
      kind = kind i;
      required_features = c.args.target.required_features;
    }) ∷ [])))
