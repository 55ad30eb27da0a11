use Rattle.std.proofs.Common.{◌∙◌, [], ◌∷◌, Err, ap}
use Rattle.std.proofs.lemmas.Result.{err_from_is_err_and}
use Rattle.pm_cargo_fetch.proofs.Lines.{TakesLines-stopped, TakesLines-whole}
use Rattle.pm_lower.specs.Lines.{metadata_line, sysroot_line}
use Rattle.pm_lower.proofs.JsonLemmas.{inline-is}
use Rattle.pm_tools_ask.specs.Ask.{means_of}
use Rattle.pm_lower.proofs.json_project.inline_project.Goals as goal

pub returns-in_err-sysroot-clause-lines : goal.returns-in_err-sysroot-clause-lines
returns-in_err-sysroot-clause-lines g c =
    let p = err_from_is_err_and c.from_residual.result c.from_residual.ensures.1 in
    TakesLines-stopped (p.1 ∙ ap Err p.2) c.in_err-sysroot.ensures.lines.front

pub returns-clause-project : goal.returns-clause-project
returns-clause-project g c =
    inline-is c.args.project c.args.config.now (means_of g.R.Runner.answers g.T.Tree.files c.args.ask.now) c.in_ok-sysroot.sysroot c.args.settings c.in_ok-sysroot.answers
    c.project_of.result c.in_ok-sysroot.ensures.sysroot c.in_ok-sysroot.ensures.answers c.requires c.project_of.ensures

pub returns-clause-lines : goal.returns-clause-lines
returns-clause-lines g c =
    TakesLines-whole (g.P.Progress.lines c.args.progress.now) (g.P.Progress.lines c.ask_stated.new.progress) (sysroot_line ∷ metadata_line ∷ []) (c.in_ok-sysroot.ensures.lines.all (λ e. cc))
