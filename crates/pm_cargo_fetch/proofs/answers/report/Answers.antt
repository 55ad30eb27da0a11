use Rattle.std.proofs.Common.{refl}
use Rattle.pm_cargo_fetch.proofs.Lines.{TakesLines-none}
use Rattle.pm_cargo_fetch.proofs.answers.report.Goals as goal

pub returns-in-Some : goal.returns-in-Some
returns-in-Some g c = rw c.in-Some.is c.report_output.ensures

pub returns-in-None : goal.returns-in-None
returns-in-None g c = rw c.in-None.is (TakesLines-none (g.P.Progress.lines c.args.progress.now) _ refl)
