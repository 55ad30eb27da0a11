use Rattle.std.proofs.Common.{◌∙◌, Err, ap}
use Rattle.std.proofs.lemmas.Result.{err_from_is_err_and}
use Rattle.base_text.specs.Progress.{TakesFront-none}
use Rattle.pm_cargo_fetch.proofs.Lines.{TakesLines-if, TakesLines-same, TakesLines-stopped, TakesLines-whole}
use Rattle.pm_lower_load.specs.Loading.{of_fetch, of_metadata_error}
use Rattle.pm_lower_load.specs.Metadata.{metadata_lines}
use Rattle.pm_lower_load.specs.declared.tool_answers.ToolAnswers.{ToolAnswers}
use Rattle.pm_lower_load.proofs.LoadingLemmas.{fetch_ran_out, refuses_fetch}
use Rattle.pm_lower.proofs.ProjectLemmas.{metadata-gives, metadata-refused}
use Rattle.pm_tools_ask.specs.Ask.{means_of}
use Rattle.pm_lower.proofs.cargo_project.located_project.Goals as goal

pub returns-in_err-settings-clause-lines : goal.returns-in_err-settings-clause-lines
returns-in_err-settings-clause-lines g c =
    let p = err_from_is_err_and c.from_residual.result c.from_residual.ensures.1 in
    TakesLines-stopped (p.1 ∙ ap Err p.2) (TakesFront-none (g.P.Progress.lines c.args.progress.now) _)

pub returns-in_err-answers-clause-lines : goal.returns-in_err-answers-clause-lines
returns-in_err-answers-clause-lines g c =
    let p = err_from_is_err_and c.from_residual-in_err-answers.result c.from_residual-in_err-answers.ensures.1 in
    TakesLines-stopped (p.1 ∙ ap Err p.2) (TakesFront-none (g.P.Progress.lines c.args.progress.now) _)

pub returns-in_err-fetched-clause-project : goal.returns-in_err-fetched-clause-project
returns-in_err-fetched-clause-project g c =
    let means = means_of g.R.Runner.answers g.T.Tree.files c.args.ask.now in
    let p = err_from_is_err_and c.from_residual-in_err-fetched.result c.from_residual-in_err-fetched.ensures.1 in
    rw (p.1, p.2) (metadata-refused c.args.sysroot c.args.manifest c.args.config.now c.args.limits.now means c.in_ok-answers.answers c.in_ok-answers.ensures
    (of_metadata_error c.in_err-fetched.field-0.0) (refuses_fetch c.in_err-fetched.field-0.0 _ c.in_err-fetched.ensures.answer))

pub returns-in_err-fetched-clause-lines : goal.returns-in_err-fetched-clause-lines
returns-in_err-fetched-clause-lines g c =
    let means = means_of g.R.Runner.answers g.T.Tree.files c.args.ask.now in
    let p = err_from_is_err_and c.from_residual-in_err-fetched.result c.from_residual-in_err-fetched.ensures.1 in
    rw (p.1, p.2) (TakesLines-same (TakesLines-if c.in_err-fetched.ensures.lines (fetch_ran_out c.in_err-fetched.field-0.0)) (ap (λ (a : ToolAnswers). metadata_lines c.args.sysroot c.args.manifest c.args.config.now a means) c.in_ok-answers.ensures))

pub returns-clause-project : goal.returns-clause-project
returns-clause-project g c =
    let means = means_of g.R.Runner.answers g.T.Tree.files c.args.ask.now in
    metadata-gives c.args.sysroot c.args.manifest c.args.config.now c.args.limits.now means c.in_ok-answers.answers c.in_ok-answers.ensures c.project_with.result
    c.in_ok-fetched.fetched (ap of_fetch c.in_ok-fetched.ensures.answer) c.project_with.ensures

pub returns-clause-lines : goal.returns-clause-lines
returns-clause-lines g c =
    let means = means_of g.R.Runner.answers g.T.Tree.files c.args.ask.now in
    TakesLines-same (TakesLines-whole (g.P.Progress.lines c.args.progress.now) (g.P.Progress.lines c.fetch.new.progress) _ (c.in_ok-fetched.ensures.lines.all (λ e. cc)))
    (ap (λ (a : ToolAnswers). metadata_lines c.args.sysroot c.args.manifest c.args.config.now a means) c.in_ok-answers.ensures)
