use Rattle.std.proofs.Common.{[]}
use Rattle.live.proofs.Runs.{completes_run, ends_run, finishes_run}
use Rattle.live.proofs.run.live_run.Goals as goal

pub returns-clause-ok : goal.returns-clause-ok
returns-clause-ok g c = finishes_run _ _ _ _ _ _ _ _ c.byte_limit-limit.ensures.limit c.run_script.ensures.ok

pub returns-clause-err : goal.returns-clause-err
returns-clause-err g c = ends_run _ _ _ _ _ _ _ _ c.byte_limit-limit.ensures.limit c.run_script.ensures.err

pub returns-clause-taken : goal.returns-clause-taken
returns-clause-taken g c = rw c.byte_limit-limit.ensures.limit at c.run_script.ensures.taken

pub returns-clause-names : goal.returns-clause-names
returns-clause-names g c = c.run_script.ensures.rest.kept

pub returns-clause-complete : goal.returns-clause-complete
returns-clause-complete g c = λ s h all known faultless. completes_run _ _ s _ _ h c.byte_limit-limit.ensures.limit (c.run_script.ensures.complete s [] h all known faultless)
