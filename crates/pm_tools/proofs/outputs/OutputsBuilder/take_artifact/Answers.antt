use Rattle.std.proofs.Common.{◌∙◌, Err, Option, ap, sym, ℕ}
use Rattle.std.proofs.lemmas.Result.{err_from_is_err_and}
use Rattle.std.specs.Option.{option_map}
use Rattle.base_text_paths.specs.Arena.{number_of}
use Rattle.pm_cargo_fetch.proofs.Lines.{TakesLines-none, TakesLines-same, TakesLines-stopped, TakesLines-whole}
use Rattle.pm_tools.specs.Lines.{artifact_lines}
use Rattle.pm_tools.specs.Packages.{lent_packages}
use Rattle.pm_tools.proofs.outputs.OutputsBuilder.take_artifact.Goals as goal

pub returns-in_default-clause-lines : goal.returns-in_default-clause-lines
returns-in_default-clause-lines g c =
    TakesLines-none (g.P.Progress.lines c.args.progress.now) _
    (ap (λ (place : Option ℕ). artifact_lines (lent_packages c.args.packages.now.packages) c.args.self.now.outputs c.args.artifact.now place)
    (sym (ap (option_map number_of) c.in_default.is) ∙ c.find.ensures.place))

pub returns-in_err-report_gain-clause-lines : goal.returns-in_err-report_gain-clause-lines
returns-in_err-report_gain-clause-lines g c =
    let p = err_from_is_err_and c.from_residual.result c.from_residual.ensures.1 in
    TakesLines-same (TakesLines-stopped (p.1 ∙ ap Err p.2) c.in_err-report_gain.ensures.front)
    (ap (λ (place : Option ℕ). artifact_lines (lent_packages c.args.packages.now.packages) c.args.self.now.outputs c.args.artifact.now place)
    (sym (ap (option_map number_of) c.in-Some.is) ∙ c.find.ensures.place))

pub returns-clause-lines : goal.returns-clause-lines
returns-clause-lines g c =
    TakesLines-same (TakesLines-whole (g.P.Progress.lines c.args.progress.now) (g.P.Progress.lines c.report_gain.new.progress) _ (c.in_ok-report_gain.ensures.all (λ e. cc)))
    (ap (λ (place : Option ℕ). artifact_lines (lent_packages c.args.packages.now.packages) c.args.self.now.outputs c.args.artifact.now place)
    (sym (ap (option_map number_of) c.in-Some.is) ∙ c.find.ensures.place))
