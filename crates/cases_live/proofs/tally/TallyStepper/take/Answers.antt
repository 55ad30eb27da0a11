use Rattle.cases_live.proofs.Counted.{count_cause, flush_cause, refuses_count, takes_count, takes_other, tally_stays}
use Rattle.cases_live.proofs.tally.TallyStepper.take.Goals as goal

pub returns-in-File-clause-ok : goal.returns-in-File-clause-ok
returns-in-File-clause-ok g c = rw c.in-File.is (takes_count _ _ _ _ c.count.ensures.ok)

pub returns-in-File-clause-err : goal.returns-in-File-clause-err
returns-in-File-clause-err g c = rw c.in-File.is (refuses_count _ _ _ _ c.count.ensures.err c.count.ensures.only)

pub returns-in-File-clause-cause : goal.returns-in-File-clause-cause
returns-in-File-clause-cause g c = count_cause _ _ c.count.ensures.only

pub returns-in-File-clause-rest : goal.returns-in-File-clause-rest
returns-in-File-clause-rest g c = tally_stays _ _ _

pub returns-in-Flush-clause-ok : goal.returns-in-Flush-clause-ok
returns-in-Flush-clause-ok g c = rw c.in-Flush.is c.flush.ensures.ok

pub returns-in-Flush-clause-err : goal.returns-in-Flush-clause-err
returns-in-Flush-clause-err g c = rw c.in-Flush.is c.flush.ensures.err

pub returns-in-Flush-clause-cause : goal.returns-in-Flush-clause-cause
returns-in-Flush-clause-cause g c = flush_cause _ _ _ c.flush.ensures.cause

pub returns-in-Flush-clause-rest : goal.returns-in-Flush-clause-rest
returns-in-Flush-clause-rest g c = tally_stays _ _ _

pub returns-in-Exclude-clause-ok : goal.returns-in-Exclude-clause-ok
returns-in-Exclude-clause-ok g c = rw c.in-Exclude.is (takes_other _ _)

pub returns-in-Exclude-clause-cause : goal.returns-in-Exclude-clause-cause
returns-in-Exclude-clause-cause g c = count_cause _ _ tt

pub returns-in-Exclude-clause-rest : goal.returns-in-Exclude-clause-rest
returns-in-Exclude-clause-rest g c = tally_stays _ _ _

pub returns-in-Answer-clause-ok : goal.returns-in-Answer-clause-ok
returns-in-Answer-clause-ok g c = rw c.in-Answer.is (takes_other _ _)

pub returns-in-Answer-clause-cause : goal.returns-in-Answer-clause-cause
returns-in-Answer-clause-cause g c = count_cause _ _ tt

pub returns-in-Answer-clause-rest : goal.returns-in-Answer-clause-rest
returns-in-Answer-clause-rest g c = tally_stays _ _ _

pub returns-in-Load-clause-ok : goal.returns-in-Load-clause-ok
returns-in-Load-clause-ok g c = rw c.in-Load.is (takes_other _ _)

pub returns-in-Load-clause-cause : goal.returns-in-Load-clause-cause
returns-in-Load-clause-cause g c = count_cause _ _ tt

pub returns-in-Load-clause-rest : goal.returns-in-Load-clause-rest
returns-in-Load-clause-rest g c = tally_stays _ _ _
