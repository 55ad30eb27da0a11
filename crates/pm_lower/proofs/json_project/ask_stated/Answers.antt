use Rattle.std.proofs.Common.{[], ◌∷◌, ap}
use Rattle.std.proofs.lemmas.Result.{err_from_is_err_and}
use Rattle.std.specs.Prelude.{is_err}
use Rattle.base_text_paths.specs.AbsPath.{abs_text}
use Rattle.pm_cargo_fetch.proofs.Lines.{TakesLines-whole}
use Rattle.pm_lower.specs.Lines.{metadata_line, sysroot_line}
use Rattle.pm_lower.proofs.JsonLemmas.{answers-are}
use Rattle.pm_lower.proofs.LineLemmas.{both_came, first_came}
use Rattle.pm_tools_ask.specs.Ask.{means_of}
use Rattle.pm_lower.proofs.json_project.ask_stated.Goals as goal

pub returns-in_err-sysroot-clause-lines : goal.returns-in_err-sysroot-clause-lines
returns-in_err-sysroot-clause-lines g c =
    let p = err_from_is_err_and c.from_residual.result c.from_residual.ensures.1 in
    first_came (g.P.Progress.lines c.args.progress.now) (g.P.Progress.lines c.line.new.self) c.line.ensures (ap is_err p.1)

pub returns-in_err-answers-clause-lines : goal.returns-in_err-answers-clause-lines
returns-in_err-answers-clause-lines g c =
    TakesLines-whole (g.P.Progress.lines c.args.progress.now) (g.P.Progress.lines c.line-2.new.self) (sysroot_line ∷ metadata_line ∷ []) (both_came _ _ _ c.line.ensures c.line-2.ensures)

pub returns-clause-answers : goal.returns-clause-answers
returns-clause-answers g c =
    answers-are c.in_ok-sysroot.sysroot _ (abs_text c.project_root.result) _ c.args.config.now.target (means_of g.R.Runner.answers g.T.Tree.files c.args.ask.now)
    c.in_ok-answers.answers c.in_ok-sysroot.ensures c.project_root.ensures c.in_ok-answers.ensures

pub returns-clause-lines : goal.returns-clause-lines
returns-clause-lines g c =
    TakesLines-whole (g.P.Progress.lines c.args.progress.now) (g.P.Progress.lines c.line-2.new.self) (sysroot_line ∷ metadata_line ∷ []) (both_came _ _ _ c.line.ensures c.line-2.ensures)
