use Rattle.std.proofs.Common.{ap}
use Rattle.live.specs.Session.{turn, state_after_failure}
use Rattle.live.proofs.Builds.{build_cause, build_leaves, fails_build, takes_build}
use Rattle.live.proofs.Loads.{answer_leaves, fails_answer, fails_load, load_cause, load_leaves, memory_cause, takes_answer, takes_load}
use Rattle.live.proofs.Turns.{cause_event, fails_event, fails_mark, marks_cause, marks_leave, marks_no_flush, takes_event, takes_mark}
use Rattle.live.proofs.session.Live.turn.Goals as goal

pub returns-in-File-clause-ok : goal.returns-in-File-clause-ok
unfolding turn
returns-in-File-clause-ok g c = takes_mark _ _ _ _ _ _ _ (λ s. ap (turn s) c.in-File.is) c.put_file.ensures.room c.put_file.ensures.ok

pub returns-in-File-clause-err : goal.returns-in-File-clause-err
unfolding turn
returns-in-File-clause-err g c =
    fails_mark _ _ _ _ _ _ _ (λ s. ap (turn s) c.in-File.is) (λ s. ap (state_after_failure s) c.in-File.is) c.put_file.ensures.too_many c.put_file.ensures.only c.put_file.ensures.err

pub returns-in-File-clause-cause : goal.returns-in-File-clause-cause
returns-in-File-clause-cause g c = marks_cause _ _ c.put_file.ensures.only

pub returns-in-File-clause-image : goal.returns-in-File-clause-image
returns-in-File-clause-image g c = marks_no_flush _ _ _ (λ e. let is = c.in-File.is in absurd (cc))

pub returns-in-File-clause-rest : goal.returns-in-File-clause-rest
returns-in-File-clause-rest g c = marks_leave _ _ _ _ _ (λ e. let is = c.in-File.is in absurd (cc)) c.put_file.ensures.ok c.put_file.ensures.err

pub returns-in-Exclude-clause-ok : goal.returns-in-Exclude-clause-ok
unfolding turn
returns-in-Exclude-clause-ok g c = takes_mark _ _ _ _ _ _ _ (λ s. ap (turn s) c.in-Exclude.is) c.exclude.ensures.room c.exclude.ensures.ok

pub returns-in-Exclude-clause-err : goal.returns-in-Exclude-clause-err
unfolding turn
returns-in-Exclude-clause-err g c =
    fails_mark _ _ _ _ _ _ _ (λ s. ap (turn s) c.in-Exclude.is) (λ s. ap (state_after_failure s) c.in-Exclude.is) c.exclude.ensures.too_many c.exclude.ensures.only c.exclude.ensures.err

pub returns-in-Exclude-clause-cause : goal.returns-in-Exclude-clause-cause
returns-in-Exclude-clause-cause g c = marks_cause _ _ c.exclude.ensures.only

pub returns-in-Exclude-clause-image : goal.returns-in-Exclude-clause-image
returns-in-Exclude-clause-image g c = marks_no_flush _ _ _ (λ e. let is = c.in-Exclude.is in absurd (cc))

pub returns-in-Exclude-clause-rest : goal.returns-in-Exclude-clause-rest
returns-in-Exclude-clause-rest g c = marks_leave _ _ _ _ _ (λ e. let is = c.in-Exclude.is in absurd (cc)) c.exclude.ensures.ok c.exclude.ensures.err

pub returns-in-Flush-clause-ok : goal.returns-in-Flush-clause-ok
returns-in-Flush-clause-ok g c = takes_event _ _ _ _ _ _ c.in-Flush.is c.flush.ensures.ok

pub returns-in-Flush-clause-err : goal.returns-in-Flush-clause-err
returns-in-Flush-clause-err g c = fails_event _ _ _ _ _ _ c.in-Flush.is c.flush.ensures.err

pub returns-in-Flush-clause-cause : goal.returns-in-Flush-clause-cause
returns-in-Flush-clause-cause g c = cause_event _ _ _ c.flush.ensures.cause

pub returns-in-Answer-clause-ok : goal.returns-in-Answer-clause-ok
returns-in-Answer-clause-ok g c = takes_answer _ _ _ _ _ _ _ c.in-Answer.is c.record_answer.ensures.ok

pub returns-in-Answer-clause-err : goal.returns-in-Answer-clause-err
returns-in-Answer-clause-err g c = fails_answer _ _ _ _ _ _ _ c.in-Answer.is c.record_answer.ensures.only c.record_answer.ensures.err

pub returns-in-Answer-clause-cause : goal.returns-in-Answer-clause-cause
returns-in-Answer-clause-cause g c = memory_cause _ _ c.record_answer.ensures.only

pub returns-in-Answer-clause-image : goal.returns-in-Answer-clause-image
returns-in-Answer-clause-image g c = marks_no_flush _ _ _ (λ e. let is = c.in-Answer.is in absurd (cc))

pub returns-in-Answer-clause-rest : goal.returns-in-Answer-clause-rest
returns-in-Answer-clause-rest g c = answer_leaves _ _ c.in-Answer.line c.in-Answer.output _ _ (λ e. let is = c.in-Answer.is in absurd (cc)) c.record_answer.ensures.ok c.record_answer.ensures.err

pub returns-in-Load-clause-ok : goal.returns-in-Load-clause-ok
returns-in-Load-clause-ok g c = takes_load _ _ _ _ _ _ c.in-Load.is c.load.ensures.ok

pub returns-in-Load-clause-err : goal.returns-in-Load-clause-err
returns-in-Load-clause-err g c = fails_load _ _ _ _ _ _ c.in-Load.is c.load.ensures.refused c.load.ensures.err

pub returns-in-Load-clause-cause : goal.returns-in-Load-clause-cause
returns-in-Load-clause-cause g c = load_cause _ _ _ _ c.load.ensures.refused

pub returns-in-Load-clause-image : goal.returns-in-Load-clause-image
returns-in-Load-clause-image g c = marks_no_flush _ _ _ (λ e. let is = c.in-Load.is in absurd (cc))

pub returns-in-Load-clause-rest : goal.returns-in-Load-clause-rest
returns-in-Load-clause-rest g c = load_leaves _ _ _ _ _ (λ e. let is = c.in-Load.is in absurd (cc)) c.load.ensures.ok c.load.ensures.err

pub returns-in-Build-clause-ok : goal.returns-in-Build-clause-ok
returns-in-Build-clause-ok g c = takes_build _ _ _ _ _ _ c.in-Build.is c.build.ensures.ok

pub returns-in-Build-clause-err : goal.returns-in-Build-clause-err
returns-in-Build-clause-err g c = fails_build _ _ _ _ _ _ c.in-Build.is c.build.ensures.refused c.build.ensures.err

pub returns-in-Build-clause-cause : goal.returns-in-Build-clause-cause
returns-in-Build-clause-cause g c = build_cause _ _ _ _ c.build.ensures.refused

pub returns-in-Build-clause-image : goal.returns-in-Build-clause-image
returns-in-Build-clause-image g c = marks_no_flush _ _ _ (λ e. let is = c.in-Build.is in absurd (cc))

pub returns-in-Build-clause-rest : goal.returns-in-Build-clause-rest
returns-in-Build-clause-rest g c = build_leaves _ _ _ _ _ (λ e. let is = c.in-Build.is in absurd (cc)) c.build.ensures.ok c.build.ensures.err
