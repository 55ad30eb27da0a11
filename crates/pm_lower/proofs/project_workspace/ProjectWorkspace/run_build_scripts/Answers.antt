use Rattle.std.proofs.Common.{◌∙◌, Option, ap, option_copied, sym}
use Rattle.base_values.specs.Version.{Parts}
use Rattle.pm_tools.specs.Lines.{build_lines}
use Rattle.pm_cargo.specs.Workspace.{Workspace}
use Rattle.pm_cargo_fetch.proofs.Lines.{TakesLines-none, TakesLines-same}
use Rattle.pm_lower.specs.Lines.{build_lines_for}
use Rattle.pm_tools_ask.specs.Ask.{means_of}
use Rattle.pm_lower.proofs.project_workspace.ProjectWorkspace.run_build_scripts.Goals as goal

pub returns-in_default-clause-lines : goal.returns-in_default-clause-lines
returns-in_default-clause-lines g c =
    let means = means_of g.R.Runner.answers g.T.Tree.files c.args.ask.now in
    TakesLines-none (g.P.Progress.lines c.args.progress.now) _
    (ap (λ (w : Option Workspace). build_lines_for c.args.config.now c.args.self.now.sysroot c.args.self.now.toolchain means w)
    (sym (ap option_copied c.in_default.is) ∙ c.built_workspace.ensures))

pub returns-clause-lines : goal.returns-clause-lines
returns-clause-lines g c =
    let means = means_of g.R.Runner.answers g.T.Tree.files c.args.ask.now in
    TakesLines-same c.run_for_workspace.ensures.lines
    (ap (λ (v : Option Parts). build_lines c.args.config.now c.in-Some.cargo.now c.args.self.now.sysroot v means) c.as_ref-version.ensures.value
    ∙ ap (λ (w : Option Workspace). build_lines_for c.args.config.now c.args.self.now.sysroot c.args.self.now.toolchain means w)
    (sym (ap option_copied c.in-Some.is) ∙ c.built_workspace.ensures))
