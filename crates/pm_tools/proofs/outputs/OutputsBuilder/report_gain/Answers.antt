use Rattle.std.proofs.Common.{◌∙◌, sym}
use Rattle.base_text_paths.specs.Arena.{number_of}
use Rattle.pm_cargo_fetch.proofs.Lines.{TakesLines-none, TakesLines-result, TakesLines-same}
use Rattle.pm_tools.specs.Packages.{lent_packages}
use Rattle.pm_tools.proofs.LineLemmas.{gained, not_gained}
use Rattle.pm_tools.proofs.outputs.OutputsBuilder.report_gain.Goals as goal

pub returns-then-gains_library : goal.returns-then-gains_library
returns-then-gains_library g c =
    TakesLines-same
    (TakesLines-result c.report_library.result (g.P.Progress.lines c.args.progress.now) (g.P.Progress.lines c.report_library.new.progress) _ c.report_library.ensures.ok c.report_library.ensures.err)
    (gained (lent_packages c.args.packages.now.packages) c.args.self.now.outputs c.args.artifact.now (number_of c.args.«package») (sym c.gains_library.ensures ∙ c.if-gains_library.true))

pub returns-else-gains_library : goal.returns-else-gains_library
returns-else-gains_library g c =
    TakesLines-none (g.P.Progress.lines c.args.progress.now) _
    (not_gained (lent_packages c.args.packages.now.packages) c.args.self.now.outputs c.args.artifact.now (number_of c.args.«package») (sym c.gains_library.ensures ∙ c.if-gains_library.false))
