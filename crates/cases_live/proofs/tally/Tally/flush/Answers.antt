use Rattle.std.proofs.Common.{Err, ap, refl}
use Rattle.cases_live.proofs.Counted.{fails_counted, takes_counted}
use Rattle.cases_live.proofs.tally.Tally.flush.Goals as goal

pub returns-in-Ok-clause-ok : goal.returns-in-Ok-clause-ok
returns-in-Ok-clause-ok g c = takes_counted c.args.self.now _ _ _ c.in-Ok.ensures.ok refl refl

pub returns-in-Err-clause-err : goal.returns-in-Err-clause-err
returns-in-Err-clause-err g c = fails_counted c.args.self.now c.in-Err.error _ _ c.in-Err.ensures.only c.in-Err.ensures.err (λ e. c.in-Err.ensures.cut (ap Err e))
