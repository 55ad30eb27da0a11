use Rattle.std.proofs.Common.{Err, Some, ap, refl, subst, ◌∙◌}
use Rattle.live_config.specs.Config.{FitsCommand}
use Rattle.live.proofs.Words.{cause_words, completes_given, completes_memory, completes_wrong, fails_given, fails_memory, fails_wrong, finishes_given, if_err, keeps_early, keeps_given, on_ok, usage_given, usage_memory, usage_wrong}
use Rattle.live.proofs.Names.{configured_names, names_both}
use Rattle.live.proofs.cli.run_words.Goals as goal

pub returns-clause-ok : goal.returns-clause-ok
returns-clause-ok g c =
    on_ok c.live_run.result (λ finishes. λ s h. finishes_given _ c.into_config.result (c.in-Ok.ensures.ok ∙ ap Some c.into_config.ensures) s _ _ _ _ _ (finishes _ (c.configure.ensures.holds s h))) c.live_run.ensures.ok

pub returns-clause-err : goal.returns-clause-err
returns-clause-err g c =
    if_err c.live_run.result (λ e ends. λ s h. fails_given _ c.into_config.result (c.in-Ok.ensures.ok ∙ ap Some c.into_config.ensures) s e _ _ _ _ _ _ (ends _ (c.configure.ensures.holds s h))) c.live_run.ensures.err

pub returns-clause-cause : goal.returns-clause-cause
returns-clause-cause g c = if_err c.live_run.result (λ e cause. cause_words e _ _ _ _ cause) c.live_run.ensures.cause

pub returns-clause-usage : goal.returns-clause-usage
returns-clause-usage g c = usage_given _ c.into_config.result (c.in-Ok.ensures.ok ∙ ap Some c.into_config.ensures) c.live_run.result _ _ _ _ c.live_run.ensures.cause

pub returns-clause-always : goal.returns-clause-always
returns-clause-always g c = keeps_given _ c.into_config.result (c.in-Ok.ensures.ok ∙ ap Some c.into_config.ensures) c.live_run.result _ _ _ _ (rw c.configure.ensures.config at c.live_run.ensures.taken)
    (names_both _ _ _ (configured_names _ _ c.configure.ensures.files c.configure.ensures.kept.0) c.live_run.ensures.names)

pub returns-clause-complete : goal.returns-clause-complete
returns-clause-complete g c = λ s h faultless.
    completes_given _ c.into_config.result (c.in-Ok.ensures.ok ∙ ap Some c.into_config.ensures) s _ c.live_run.result (λ all known. c.live_run.ensures.complete _ (c.configure.ensures.holds s h) all known faultless)

pub configure-requires : goal.configure-requires
configure-requires g c = subst FitsCommand c.into_config.ensures c.in-Ok.ensures.fits

pub returns-in-Err-Usage-clause-err : goal.returns-in-Err-Usage-clause-err
returns-in-Err-Usage-clause-err g c = λ s h. fails_wrong _ s _ _ _ _ (c.in-Err-Usage.ensures.usage (ap Err c.in-Err-Usage.field-0-is))

pub returns-in-Err-Usage-clause-usage : goal.returns-in-Err-Usage-clause-usage
returns-in-Err-Usage-clause-usage g c = usage_wrong _ (c.in-Err-Usage.ensures.usage (ap Err c.in-Err-Usage.field-0-is)) (refl, refl, refl)

pub returns-in-Err-Usage-clause-always : goal.returns-in-Err-Usage-clause-always
returns-in-Err-Usage-clause-always g c = keeps_early _ _ _ _

pub returns-in-Err-Usage-clause-complete : goal.returns-in-Err-Usage-clause-complete
returns-in-Err-Usage-clause-complete g c = λ s h faultless. completes_wrong _ s _ _ (c.in-Err-Usage.ensures.usage (ap Err c.in-Err-Usage.field-0-is))

pub returns-in-Err-OutOfMemory-clause-err : goal.returns-in-Err-OutOfMemory-clause-err
returns-in-Err-OutOfMemory-clause-err g c = λ s h. fails_memory _ s _ _ _

pub returns-in-Err-OutOfMemory-clause-usage : goal.returns-in-Err-OutOfMemory-clause-usage
returns-in-Err-OutOfMemory-clause-usage g c = usage_memory _ (refl, refl, refl)

pub returns-in-Err-OutOfMemory-clause-always : goal.returns-in-Err-OutOfMemory-clause-always
returns-in-Err-OutOfMemory-clause-always g c = keeps_early _ _ _ _

pub returns-in-Err-OutOfMemory-clause-complete : goal.returns-in-Err-OutOfMemory-clause-complete
returns-in-Err-OutOfMemory-clause-complete g c = λ s h faultless. completes_memory _ s _
