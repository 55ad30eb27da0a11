use Rattle.std.proofs.Common.{sym}
use Rattle.live.proofs.Words.{cause_result}
use Rattle.live.proofs.cli.live_cli.Goals as goal

pub returns-in-Err-clause-err : goal.returns-in-Err-clause-err
returns-in-Err-clause-err g c = λ _. record { error = c.in-Err.error; reports = sym c.status.ensures; answer = c.tell.result; told = rw c.usage_text.ensures at c.tell.ensures; fails = c.in-Err.ensures.err }

pub returns-in-Err-clause-cause : goal.returns-in-Err-clause-cause
returns-in-Err-clause-cause g c =
    cause_result c.in-Err.error _ _ _ _ _ c.status.ensures c.in-Err.ensures.cause

pub returns-in-Err-clause-always : goal.returns-in-Err-clause-always
returns-in-Err-clause-always g c = rw c.status.ensures c.in-Err.ensures.always

pub returns-in-Err-clause-usage : goal.returns-in-Err-clause-usage
returns-in-Err-clause-usage g c = rw c.status.ensures c.in-Err.ensures.usage

pub returns-in-Err-clause-complete : goal.returns-in-Err-clause-complete
returns-in-Err-clause-complete g c = rw c.status.ensures c.in-Err.ensures.complete
