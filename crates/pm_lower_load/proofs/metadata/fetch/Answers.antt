use Rattle.std.proofs.Common.{◌∙◌, Err, ap, subst}
use Rattle.std.proofs.lemmas.Result.{err_from_is_err_and}
use Rattle.base_text_paths.specs.AbsPath.{abs_text}
use Rattle.base_text.specs.Progress.{TakesFront-none}
use Rattle.pm_cargo_fetch.specs.Fetch.{AnswersFetch, FetchAnswer}
use Rattle.pm_cargo_fetch.proofs.Lines.{TakesLines-same, TakesLines-stopped}
use Rattle.pm_lower_load.proofs.MetadataLemmas.{metadata_answer-is, metadata_lines-is}
use Rattle.pm_tools_ask.specs.Ask.{means_of}
use Rattle.pm_lower_load.proofs.metadata.fetch.Goals as goal

pub returns-in_err-asked-clause-lines : goal.returns-in_err-asked-clause-lines
returns-in_err-asked-clause-lines g c =
    let p = err_from_is_err_and c.from_residual.result c.from_residual.ensures.1 in
    TakesLines-stopped (p.1 ∙ ap Err p.2) (TakesFront-none (g.P.Progress.lines c.args.progress.now) _)

pub returns-in_err-root-clause-lines : goal.returns-in_err-root-clause-lines
returns-in_err-root-clause-lines g c =
    let p = err_from_is_err_and c.from_residual-in_err-root.result c.from_residual-in_err-root.ensures.1 in
    TakesLines-stopped (p.1 ∙ ap Err p.2) (TakesFront-none (g.P.Progress.lines c.args.progress.now) _)

pub returns-clause-answer : goal.returns-clause-answer
returns-clause-answer g c =
    let same = metadata_answer-is c.args.sysroot.now c.args.manifest.now (abs_text c.parent.result) c.args.config.now c.args.answers.now (means_of g.R.Runner.answers g.T.Tree.files c.args.ask.now)
    c.in_ok-asked.asked.kind c.in_ok-asked.asked c.in_ok-root.root c.parent.ensures c.in_ok-asked.ensures.asked c.in_ok-root.ensures in
    subst (λ (answer : FetchAnswer). AnswersFetch c.fetch_as.result answer) same c.fetch_as.ensures.answer

pub returns-clause-lines : goal.returns-clause-lines
returns-clause-lines g c =
    TakesLines-same c.fetch_as.ensures.lines
    (metadata_lines-is c.args.sysroot.now c.args.manifest.now (abs_text c.parent.result) c.args.config.now c.args.answers.now (means_of g.R.Runner.answers g.T.Tree.files c.args.ask.now)
    c.in_ok-asked.asked.kind c.in_ok-asked.asked c.in_ok-root.root c.parent.ensures c.in_ok-asked.ensures.asked c.in_ok-root.ensures)
