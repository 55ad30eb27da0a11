use Rattle.std.proofs.Common.{◌≡◌, ◌∙◌, Err, ap, sym}
use Rattle.std.proofs.lemmas.Result.{err_from_is_err_and}
use Rattle.base_text.specs.Progress.{TakesFront-none}
use Rattle.pm_cargo_fetch.proofs.Lines.{TakesLines-if, TakesLines-same, TakesLines-stopped, TakesLines-whole}
use Rattle.pm_lower_load.specs.JsonDocument.{json_content}
use Rattle.pm_lower_load.proofs.LoadingLemmas.{reading_ran_out}
use Rattle.pm_lower.specs.Lines.{lines_of_document}
use Rattle.pm_lower.proofs.JsonLemmas.{json-read, json-refused, made-refused}
use Rattle.pm_lower.proofs.LineLemmas.{lines_without_document}
use Rattle.pm_tools_ask.specs.Ask.{means_of}
use Rattle.pm_lower.proofs.json_project.json_project.Goals as goal

pub returns-in_err-settings-clause-lines : goal.returns-in_err-settings-clause-lines
returns-in_err-settings-clause-lines g c =
    let p = err_from_is_err_and c.from_residual.result c.from_residual.ensures.1 in
    TakesLines-stopped (p.1 ∙ ap Err p.2) (TakesFront-none (g.P.Progress.lines c.args.progress.now) _)

pub returns-in_err-project-clause-project : goal.returns-in_err-project-clause-project
returns-in_err-project-clause-project g c =
    let p = err_from_is_err_and c.from_residual-in_err-project.result c.from_residual-in_err-project.ensures.1 in
    rw (p.1, p.2) (json-refused c.args.path.now c.args.config.now c.args.limits.now (means_of g.R.Runner.answers g.T.Tree.files c.args.ask.now)
    c.in_err-project.field-0.0 c.in_err-project.ensures)

pub returns-in_err-project-clause-lines : goal.returns-in_err-project-clause-lines
returns-in_err-project-clause-lines g c =
    let p = err_from_is_err_and c.from_residual-in_err-project.result c.from_residual-in_err-project.ensures.1 in
    rw (p.1, p.2) (lines_without_document c.in_err-project.field-0.0 (json_content c.args.path.now c.args.limits.now (g.T.Tree.files c.args.ask.now.tree.now)) (g.P.Progress.lines c.args.progress.now) c.in_err-project.ensures)

pub returns-in_err-inline_project-clause-project : goal.returns-in_err-inline_project-clause-project
returns-in_err-inline_project-clause-project g c =
    let p = err_from_is_err_and c.from_residual-in_err-inline_project.result c.from_residual-in_err-inline_project.ensures.1 in
    rw (p.1, p.2) (made-refused c.args.path.now c.args.config.now c.args.limits.now (means_of g.R.Runner.answers g.T.Tree.files c.args.ask.now)
    c.in_ok-project.project c.in_err-inline_project.field-0.0 c.in_ok-project.ensures c.in_err-inline_project.ensures.project)

-- the document was read, and its lines are both parts
pub returns-in_err-inline_project-clause-lines : goal.returns-in_err-inline_project-clause-lines
returns-in_err-inline_project-clause-lines g c =
    let p = err_from_is_err_and c.from_residual-in_err-inline_project.result c.from_residual-in_err-inline_project.ensures.1 in
    rw (p.1, p.2) (TakesLines-same (TakesLines-if c.in_err-inline_project.ensures.lines (reading_ran_out c.in_err-inline_project.field-0.0)) (ap lines_of_document (sym c.in_ok-project.ensures)))

pub returns-clause-project : goal.returns-clause-project
returns-clause-project g c =
    json-read c.args.path.now c.args.config.now c.args.limits.now (means_of g.R.Runner.answers g.T.Tree.files c.args.ask.now) c.in_ok-project.project
    c.in_ok-inline_project.field-0 c.in_ok-project.ensures c.in_ok-inline_project.ensures.project

pub returns-clause-lines : goal.returns-clause-lines
returns-clause-lines g c =
    TakesLines-same
    (TakesLines-whole (g.P.Progress.lines c.args.progress.now) (g.P.Progress.lines c.inline_project.new.progress) _ (c.in_ok-inline_project.ensures.lines.all (λ e. cc)))
    (ap lines_of_document (sym c.in_ok-project.ensures))
