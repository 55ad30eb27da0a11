use Rattle.std.proofs.Common.{◌≡◌, ◌∙◌, ap, codes, rules, sym, true}
use Rattle.std.proofs.lemmas.Result.{IfOk-weaker}
use Rattle.pm_cargo_config.specs.Variables.{with_last_variable}
use Rattle.pm_tools.specs.Question.{with_wrapper}
use Rattle.pm_tools.proofs.build_command.with_wrapper.Goals as goal

-- both variables, one after another
pub returns : goal.returns
returns c =
    let wraps : c.args.wraps ≡ true = search (rules, c.if-not-wraps.false) in
    IfOk-weaker c.set_variable-2.result _ _
    (λ set h. h ∙ ap (with_last_variable (codes "RA_RUSTC_WRAPPER") (codes "1")) c.in_ok-line.ensures
    ∙ ap (λ b. with_wrapper b c.args.myself.now c.args.line) (sym wraps)) c.set_variable-2.ensures
