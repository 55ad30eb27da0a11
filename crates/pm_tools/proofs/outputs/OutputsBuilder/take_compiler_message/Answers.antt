use Rattle.std.proofs.Common.{[], ◌∷◌, List, ap, subst, sym, ℕ}
use Rattle.std.proofs.lemmas.Result.{err_from_is_err_and}
use Rattle.std.specs.Prelude.{is_err}
use Rattle.pm_cargo_fetch.proofs.Lines.{TakesLines-same, TakesLines-stopped, TakesLines-whole}
use Rattle.base_text.specs.Progress.{TakesFront, TakesFront-none}
use Rattle.pm_tools.specs.Lines.{compiler_line}
use Rattle.pm_tools.proofs.outputs.OutputsBuilder.take_compiler_message.Goals as goal

pub returns-in_err-report_message-clause-lines : goal.returns-in_err-report_message-clause-lines
returns-in_err-report_message-clause-lines g c =
    let p = err_from_is_err_and c.from_residual.result c.from_residual.ensures.1 in
    let wanted : List (List ℕ) = compiler_line c.args.message.now.target.name ∷ [] in
    TakesLines-stopped (ap is_err p.1)
    (subst (λ n. TakesFront (g.P.Progress.lines c.args.progress.now) n wanted) (sym c.in_err-report_message.ensures.err) (TakesFront-none (g.P.Progress.lines c.args.progress.now) wanted))

pub returns-in-Some-clause-lines : goal.returns-in-Some-clause-lines
returns-in-Some-clause-lines g c =
    TakesLines-same (TakesLines-whole (g.P.Progress.lines c.args.progress.now) (g.P.Progress.lines c.report_message.new.progress) _ c.in_ok-report_message.ensures.ok)
    (ap (λ (target : List ℕ). compiler_line target ∷ []) c.as_str.ensures)

pub returns-in-None-clause-lines : goal.returns-in-None-clause-lines
returns-in-None-clause-lines g c =
    TakesLines-same (TakesLines-whole (g.P.Progress.lines c.args.progress.now) (g.P.Progress.lines c.report_message.new.progress) _ c.in_ok-report_message.ensures.ok)
    (ap (λ (target : List ℕ). compiler_line target ∷ []) c.as_str.ensures)
