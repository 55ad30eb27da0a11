-- One event: a mark that is taken or refused, or a flush.
use Rattle.std.proofs.Common.{◌≡◌, ℕ, Bool, true, List, [], ◌∷◌, ◌++◌, Option, Result, Ok, Err, inl, inr, ◌⊎◌, refl, sym, ap, subst, ◌∙◌, arith}
use Rattle.std.specs.Prelude.{IfErr, IsErrOf, OnErr, OnOk, is_err}
use Rattle.std.specs.List.{concat}
use Rattle.base_text_outside.specs.Sink.{AppendsPart}
use Rattle.base_text_outside.specs.declared.limits.Limit.TheVariants.{Paths}
use Rattle.vfs_core.specs.Files.{IsFullFor}
use Rattle.vfs_core.specs.VfsPath.{PathContent}
use Rattle.vfs_core.specs.declared.marks.Mark.{Mark}
use Rattle.vfs_core.specs.declared.marks.MarkKind.{MarkKind}
use Rattle.input_db.specs.Database.{Database}
use Rattle.live_page.specs.declared.event.Event.{Event}
use Rattle.live_page.specs.declared.event.Event.TheVariants.{Flush}
use Rattle.live_script.specs.declared.fault.LiveError.{LiveError}
use Rattle.live_script.specs.declared.fault.LiveError.TheVariants.{OutOfMemory, TooMany}
use Rattle.live_script.specs.declared.fault.StepError.{StepError}
use Rattle.live_script.specs.declared.fault.StepError.TheVariants.{Refused}
use Rattle.live.specs.declared.session.Live.{Live}
use Rattle.live_script.specs.Fault.{IsOneOf, flush_statuses, status_of, turn_statuses}
use Rattle.live_script.specs.Session.{texts_by}
use Rattle.live_script.specs.Turn as script
use Rattle.live_script.specs.Turn.{StaysOn}
use Rattle.live.specs.Marked.{AddsMarkTo}
use Rattle.live_page.specs.Refresh.{KeepsDatabaseCrates}
use Rattle.live.specs.Page.{Flushed, page}
use Rattle.live.specs.Session.{State, ended_state, flush_turn, mark_turn, state_after_failure, turn}
use Rattle.live.specs.Turn.{EndsLiveTurn, HasEnded, Holds, KeepsNames, LeavesAsWas, TakesLiveTurn, live_rules}
use Rattle.live_script.specs.Written.{AppendsFront, AppendsTexts, HasWriteCause}
use Rattle.live.proofs.Names.{names_by, names_equal, names_wider}
use Rattle.live.proofs.Room.{marks_err, marks_ok}
use Rattle.live_script.proofs.Statuses.{among}

-- an error out of memory or of numbers for paths
abbrev pub IsMarkError : LiveError → Type 0
IsMarkError error = (error ≡ OutOfMemory) ⊎ (error ≡ TooMany Paths)

-- a mark that was taken
pub takes_mark : (live live' : Live) (path : PathContent) (kind : MarkKind) (result : Result (Unit {0}) LiveError) (held : Option (List ℕ)) (event : Event)
    → ((s : State) → turn s event ≡ mark_turn s path kind) → OnOk result (¬ IsFullFor live.recorded.files path)
    → OnOk result (AddsMarkTo live live' (record { path = path; kind = kind }))
    → OnOk result ((s : State) → Holds live s → TakesLiveTurn (turn s event) live' (held, held))
takes_mark live live' path kind (Ok done) held event is room adds = λ s h.
    subst (λ t. TakesLiveTurn t live' (held, held)) (sym (is s)) (marks_ok live live' s path kind h held room adds)
takes_mark live live' path kind (Err error) held event is room adds = tt

-- one that was not
pub fails_mark : (live live' : Live) (path : PathContent) (kind : MarkKind) (result : Result (Unit {0}) LiveError) (held : Option (List ℕ)) (event : Event)
    → ((s : State) → turn s event ≡ mark_turn s path kind) → ((s : State) → state_after_failure s event ≡ s)
    → (IsErrOf result (TooMany Paths) → IsFullFor live.recorded.files path) → IfErr result IsMarkError → OnErr result (live' ≡ live)
    → IfErr result (λ e. (s : State) → Holds live s → EndsLiveTurn (turn s event) (state_after_failure s event) e live' (held, held))
fails_mark live live' path kind (Ok done) held event is stays full only same = tt
fails_mark live live' path kind (Err error) held event is stays full only same = λ s h.
    subst (λ l. EndsLiveTurn (turn s event) l error live' (held, held)) (sym (stays s))
    (subst (λ t. EndsLiveTurn t s error live' (held, held)) (sym (is s))
    (marks_err live live' s path kind h error held only (λ e. full (ap Err e)) same))

-- its cause
mark_cause : (error : LiveError) (count : ℕ) → IsMarkError error → HasWriteCause {T = Unit {0}} (Err error) turn_statuses (count, count)
mark_cause error count (inl memory) = record {
  later = omega arith;
  only = subst (λ e. IsOneOf turn_statuses (status_of e)) (sym memory) refl;
  write = λ e. absurd (cc);
  limits = λ e. cc;
}
mark_cause error count (inr paths) = record {
  later = omega arith;
  only = subst (λ e. IsOneOf turn_statuses (status_of e)) (sym paths) refl;
  write = λ e. absurd (cc);
  limits = λ e. cc;
}

pub marks_cause : (result : Result (Unit {0}) LiveError) (count : ℕ) → IfErr result IsMarkError → HasWriteCause result turn_statuses (count, count)
marks_cause (Ok done) count only = record { later = omega arith; only = tt; write = λ e. absurd (cc); limits = λ e. cc }
marks_cause (Err error) count only = mark_cause error count only

-- a database that is as it was has its crates
pub crates_same : (old new : Database) → new ≡ old → KeepsDatabaseCrates old new
crates_same old new same = record {
  crates = ap (λ d. d.crates) same;
  listed = ap (λ d. d.listed) same;
  durability = ap (λ d. d.listed_durability) same;
  writes = ap (λ d. d.writes) same;
}

-- and what it leaves as it was
pub marks_leave : (live live' : Live) (mark : Mark) (result : Result (Unit {0}) LiveError) (event : Event) → (event ≡ Flush → ⊥)
    → OnOk result (AddsMarkTo live live' mark) → OnErr result (live' ≡ live) → LeavesAsWas event (is_err result) (IsErrOf result OutOfMemory) live live'
marks_leave live live' mark (Ok done) event other adds same = record {
  names = names_by live live' adds.adds.adds.numbers (ap (λ l. l.db.crates) adds.rest);
  config = adds.adds.config;
  database = λ _. ap (λ l. l.db) adds.rest;
  all = λ e. absurd (cc);
  crates = λ _ none. crates_same live.db live'.db (ap (λ l. l.db) adds.rest);
  probes = λ _. ap (λ l. l.probes) adds.rest;
  counts = λ e. absurd (other e);
  going = λ _. ap (λ l. l.ended) adds.rest;
  ends = λ e. absurd (cc);
}
marks_leave live live' mark (Err error) event other adds same = record {
  names = names_equal live live' same;
  config = ap (λ l. l.recorded.config) same;
  database = λ _. ap (λ l. l.db) same;
  all = λ _ _. same;
  crates = λ e none. absurd (cc);
  probes = λ _. ap (λ l. l.probes) same;
  counts = λ e. absurd (other e);
  going = λ e. absurd (cc);
  ends = λ _ e. absurd (other e);
}

-- what is said where one error runs out of memory is said where another does
leaves_wider : {Memory More : Type 0} (event : Event) (failed : Bool) (live live' : Live) → (Memory → More) → LeavesAsWas event failed Memory live live'
    → LeavesAsWas event failed More live live'
leaves_wider event failed live live' more leaves = record {
  names = names_wider live live' more leaves.names;
  config = leaves.config;
  database = leaves.database;
  all = leaves.all;
  crates = leaves.crates;
  probes = leaves.probes;
  counts = leaves.counts;
  going = leaves.going;
  ends = leaves.ends;
}

-- what a failed turn left is left by the step that reports it
pub step_leaves : (event copy : Event) (error : LiveError) (live live' : Live) → copy ≡ event → LeavesAsWas copy true (IsErrOf {T = Unit {0}} (Err error) OutOfMemory) live live'
    → LeavesAsWas event true (IsErrOf {T = Unit {0}} {E = StepError} (Err (Refused error)) (Refused OutOfMemory)) live live'
step_leaves event copy error live live' same leaves =
    subst (λ e. LeavesAsWas e true (IsErrOf {T = Unit {0}} {E = StepError} (Err (Refused error)) (Refused OutOfMemory)) live live') same
    (leaves_wider copy true live live' (λ out. ap (λ e. Err (Refused e)) (let is : error ≡ OutOfMemory = cc in is)) leaves)

-- no event but a flush is one
pub marks_no_flush : (P : Type 0) (result : Result (Unit {0}) LiveError) (event : Event) → (event ≡ Flush → ⊥) → OnOk result (event ≡ Flush → P)
marks_no_flush P (Ok done) event other = λ e. absurd (other e)
marks_no_flush P (Err error) event other = tt

-- a flush
module _ (live live' : Live) (result : Result (Unit {0}) LiveError) (old new : Option (List ℕ)) (event : Event) (is : event ≡ Flush) where
  pub takes_event : OnOk result ((s : State) → Holds live s → TakesLiveTurn (flush_turn s) live' (old, new))
      → OnOk result ((s : State) → Holds live s → TakesLiveTurn (turn s event) live' (old, new))
  unfolding turn
  takes_event takes = subst (λ e. OnOk result ((s : State) → Holds live s → TakesLiveTurn (turn s e) live' (old, new))) (sym is) takes

  pub fails_event : IfErr result (λ e. (s : State) → Holds live s → EndsLiveTurn (flush_turn s) (ended_state s) e live' (old, new))
      → IfErr result (λ e. (s : State) → Holds live s → EndsLiveTurn (turn s event) (state_after_failure s event) e live' (old, new))
  unfolding turn
  fails_event fails =
      subst (λ v. IfErr result (λ e. (s : State) → Holds live s → EndsLiveTurn (turn s v) (state_after_failure s v) e live' (old, new))) (sym is) fails

wider : (P Q : LiveError → Type 0) (result : Result (Unit {0}) LiveError) → ((error : LiveError) → P error → Q error) → IfErr result P → IfErr result Q
wider P Q (Ok done) more only = tt
wider P Q (Err error) more only = more error only

-- an error of a flush is one of a turn
pub cause_event : (result : Result (Unit {0}) LiveError) (old new : ℕ) → HasWriteCause result flush_statuses (old, new) → HasWriteCause result turn_statuses (old, new)
cause_event result old new cause = record {
  later = cause.later;
  only = wider _ _ result (λ error only. among flush_statuses turn_statuses refl (status_of error) only) cause.only;
  write = cause.write;
  limits = cause.limits;
}

-- ---- a session as a stepper

-- the pages of flushes are the same after any flushes
pages_after : (before flushes : List Flushed) → texts_by live_rules.text before flushes ≡ texts_by live_rules.text [] flushes
pages_after before [] = refl
pages_after before (done ∷ flushes) = ap (λ texts. page done ∷ texts) (pages_after (before ++ done ∷ []) flushes ∙ sym (pages_after (done ∷ []) flushes))

-- a turn that was taken, after any flushes
pub steps_ok : (live live' : Live) (result : Result (Unit {0}) LiveError) (old new : Option (List ℕ)) (event : Event)
    → OnOk result ((s : State) → Holds live s → TakesLiveTurn (turn s event) live' (old, new))
    → OnOk result ((s : State) (before : List Flushed) → Holds live s → script.TakesTurn live_rules (turn s event) before live' (old, new))
steps_ok live live' (Ok done) old new event takes = λ s before h.
    let here = takes s h in record {
      accepted = here.accepted;
      holds = here.holds;
      appended = subst (AppendsTexts (old, new)) (sym (pages_after before (turn s event).flushes)) here.appended;
    }
steps_ok live live' (Err error) old new event takes = tt

-- and one that failed
pub steps_err : (live live' : Live) (result : Result (Unit {0}) LiveError) (old new : Option (List ℕ)) (event : Event)
    → IfErr result (λ e. (s : State) → Holds live s → EndsLiveTurn (turn s event) (state_after_failure s event) e live' (old, new))
    → IfErr result (λ e. (s : State) (before : List Flushed) → Holds live s → script.EndsTurn live_rules (turn s event) (λ left. left ≡ state_after_failure s event) e before live' (old, new))
steps_err live live' (Ok done) old new event fails = tt
steps_err live live' (Err error) old new event fails = λ s before h.
    let here = fails s h in
    let same = sym (pages_after before (turn s event).flushes) in record {
      written = subst (AppendsFront (old, new)) same here.written;
      cut = λ e. subst (λ texts. AppendsPart old new (concat texts)) same (here.cut e);
      refused = λ refusal.
          let refused = here.refused refusal in
          record { refused = refused.refused; holds = refused.holds; appended = subst (AppendsTexts (old, new)) same refused.appended };
      state = here.state;
      left = here.left;
      holds = here.holds;
    }

-- what stays
pub steps_stay : (live live' : Live) (result : Result (Unit {0}) LiveError) (event : Event) → (HasEnded live → ⊥) → LeavesAsWas event (is_err result) (IsErrOf result OutOfMemory) live live'
    → StaysOn HasEnded (λ r old new. KeepsNames (IsErrOf r OutOfMemory) old new) result live live'
steps_stay live live' (Ok done) event going leaves = record { kept = leaves.names; going = λ ended. going (sym (leaves.going refl) ∙ ended) }
steps_stay live live' (Err error) event going leaves = record { kept = leaves.names; going = tt }
