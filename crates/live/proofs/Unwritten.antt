-- A flush that comes to no page: it ran out of memory, or the crates of its project are refused.
use Rattle.std.proofs.Common.{◌≡◌, ℕ, List, [], Option, Some, None, Err, inl, inr, refl, sym, ◌∙◌, ap, subst, arith}
use Rattle.base_text_outside.specs.Sink.{Appends-nil}
use Rattle.base_text_outside.specs.declared.limits.Limit.{Limit}
use Rattle.base_text_outside.specs.declared.limits.Limit.TheVariants.{Bytes, Crates}
use Rattle.vfs_core.specs.Files.{existing_files}
use Rattle.vfs_core.specs.VfsPath.{PathContent}
use Rattle.pm_lower_crates.specs.Refusal.{Refuses}
use Rattle.pm_lower_crates.specs.declared.lower_error.LowerError.{LowerError}
use Rattle.pm_lower_crates.specs.declared.lower_error.LowerError.TheVariants as lower
use Rattle.live_project.specs.Project.{ProjectContent}
use Rattle.live_project.proofs.Limited.{lowered_limit}
use Rattle.live_project.proofs.SaidLemmas.{spares_same}
use Rattle.live_script.specs.declared.fault.LiveError.{LiveError}
use Rattle.live_script.specs.declared.fault.LiveError.TheVariants.{OutOfMemory, TooMany, WriteFault}
use Rattle.live.specs.declared.session.Live.{Live}
use Rattle.live_script.specs.Fault.{IsOneOf, IsRefusal, flush_statuses, of_lower_error, status_of}
use Rattle.live.specs.Marked.{SparesFiles}
use Rattle.live.specs.Page.{crates_by}
use Rattle.live.specs.Refresh.{FailsFlush}
use Rattle.live.specs.Session.{State, ended_state, flush_of, flush_turn, flushed_turn}
use Rattle.live.specs.Turn.{EndsLiveTurn, Holds}
use Rattle.live_script.specs.Written.{HasWriteCause}
use Rattle.live_project.proofs.Existing.{existing_numbered}
use Rattle.live.proofs.Flushed.{IsEnded, holds_ended}
use Rattle.live_script.proofs.Texts.{AppendsFront-nil}

-- out of memory: nothing was written
memory-ends : (ended : Live) (s left : State) (error : LiveError) (held : Option (List ℕ)) → error ≡ OutOfMemory → Holds ended left → EndsLiveTurn (flush_turn s) left error ended (held, held)
memory-ends ended s left error held memory holds = record {
  written = AppendsFront-nil held _;
  cut = λ e. absurd (cc);
  refused = λ refusal. absurd (let r : IsRefusal OutOfMemory = subst IsRefusal memory refusal in omega (arith, r));
  state = left;
  left = refl;
  holds = holds;
}

-- or the crates are refused
refused-turn : (live : Live) (s : State) (refusal : LowerError) → Holds live s → crates_by live.project (existing_files live.recorded.files) ≡ Err refusal
    → flush_turn s ≡ flushed_turn s (flush_of s) (Err refusal)
refused-turn live s refusal h lowers =
    let numbers = existing_numbered live.recorded.files s.said.marks h.said.texts.follows in
    ap (flushed_turn s (flush_of s)) ((λ i. crates_by (sym h.project i) (sym numbers i)) ∙ lowers)

no-lower-fault : (refusal : LowerError) → of_lower_error refusal ≡ WriteFault → ⊥
no-lower-fault (lower.BadCrateName name) e = cc
no-lower-fault (lower.TooMany limit) e = cc
no-lower-fault lower.OutOfMemory e = cc

pub fails_flush : (live spared ended : Live) (s : State) (error : LiveError) (held : Option (List ℕ)) → Holds live s → FailsFlush live error → SparesFiles live spared
    → IsEnded spared ended → EndsLiveTurn (flush_turn s) (ended_state s) error ended (held, held)
fails_flush live spared ended s error held h fails spares is =
    by fails
  where
    holds : Holds ended (ended_state s)
    holds = holds_ended live ended s h (spares_same live.recorded spared.recorded ended.recorded spares.recorded is.recorded) (is.project ∙ spares.project) (is.flushed ∙ spares.flushed) is.ended

    by : FailsFlush live error → EndsLiveTurn (flush_turn s) (ended_state s) error ended (held, held)
    by (inl memory) = memory-ends ended s (ended_state s) error held memory holds
    by (inr refused) =
        subst (λ t. EndsLiveTurn t (ended_state s) error ended (held, held)) (sym (refused-turn live s refused.refusal h refused.lowers)) (record {
          written = AppendsFront-nil held [];
          cut = λ e. absurd (no-lower-fault refused.refusal (sym refused.reports ∙ e));
          refused = λ refusal. record { refused = ap Some (sym refused.reports); holds = holds; appended = Appends-nil held };
          state = ended_state s;
          left = refl;
          holds = holds;
        })

-- ---- causes

lower-status : (refusal : LowerError) → IsOneOf flush_statuses (status_of (of_lower_error refusal))
lower-status (lower.BadCrateName name) = refl
lower-status (lower.TooMany limit) = refl
lower-status lower.OutOfMemory = refl

-- the limit that refuses the crates is that of crates
crates-limit : (p : Option ProjectContent) (files : List (ℕ × PathContent)) (limit : Limit) → crates_by p files ≡ Err (lower.TooMany limit) → limit ≡ Crates
crates-limit None files limit is = cc
crates-limit (Some p) files limit is = lowered_limit p files limit is

flush-limit : (live : Live) (refusal : LowerError) → crates_by live.project (existing_files live.recorded.files) ≡ Err refusal → of_lower_error refusal ≡ TooMany Bytes → ⊥
flush-limit live (lower.BadCrateName name) lowers e = cc
flush-limit live (lower.TooMany limit) lowers e =
    let crates = crates-limit live.project (existing_files live.recorded.files) limit lowers in
    let is : limit ≡ Bytes = cc in let both : Bytes ≡ Crates = sym is ∙ crates in cc
flush-limit live lower.OutOfMemory lowers e = cc

pub fails_cause : (live : Live) (error : LiveError) (count : ℕ) → FailsFlush live error → HasWriteCause {T = Unit {0}} (Err error) flush_statuses (count, count)
fails_cause live error count (inl memory) = record {
  later = omega arith;
  only = subst (λ e. IsOneOf flush_statuses (status_of e)) (sym memory) refl;
  write = λ e. absurd (cc);
  limits = λ e. cc;
}
fails_cause live error count (inr refused) = record {
  later = omega arith;
  only = subst (λ e. IsOneOf flush_statuses (status_of e)) (sym refused.reports) (lower-status refused.refusal);
  write = λ e. absurd (let is : error ≡ WriteFault = cc in no-lower-fault refused.refusal (sym refused.reports ∙ is));
  limits = λ e. let is : error ≡ TooMany Bytes = cc in flush-limit live refused.refusal refused.lowers (sym refused.reports ∙ is);
}

-- what a call of the lowering gives, of a session
pub refuses_flush : (live : Live) (refusal : LowerError) → Refuses refusal (crates_by live.project (existing_files live.recorded.files)) → FailsFlush live (of_lower_error refusal)
refuses_flush live (lower.BadCrateName name) h = inr (record { refusal = lower.BadCrateName name; lowers = h; reports = refl })
refuses_flush live (lower.TooMany limit) h = inr (record { refusal = lower.TooMany limit; lowers = h; reports = refl })
refuses_flush live lower.OutOfMemory h = inl refl
