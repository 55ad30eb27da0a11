use Rattle.std.proofs.Common.{◌≡◌, ◌++◌, false, ap, sym, ◌∙◌}
use Rattle.std.specs.Prelude.{codes, string_bytes}
use Rattle.std.specs.Result.{IfOk}
use Rattle.std.proofs.lemmas.Bool.{cond-false}
use Rattle.std.proofs.lemmas.Result.{MatchResult-weaker}
use Rattle.semver.specs.Identifiers.{parts_text, version_text}
use Rattle.pm_cargo.specs.Queries.{is_unique}
use Rattle.pm_cargo.proofs.cargo_workspace.CargoWorkspace.package_flag.Goals as goal

pub returns : goal.returns
returns c =
    let w = c.args.self.now in
    let p = c.args.package.now in
    let told : IfOk c.format.result (λ s. string_bytes s ≡ c.as_str-name.result.now ++ (codes ":" ++ version_text c.as_version.result.now)) = c.format.ensures.ok in
    let several : is_unique w p.name ≡ false = ap (is_unique w) (sym c.as_str-name.ensures) ∙ sym c.is_unique.ensures ∙ c.if-is_unique.false in
    MatchResult-weaker c.format.result told
    (λ s is. is
    ∙ ap (λ name. name ++ (codes ":" ++ version_text c.as_version.result.now)) c.as_str-name.ensures
    ∙ ap (λ version. p.name ++ (codes ":" ++ parts_text version)) c.as_version.ensures
    ∙ sym (cond-false _ _ _ several))
    (λ e h. h)
