-- The causes of a run's errors, and what a run completes where neither stream failed.
use Rattle.std.proofs.Common.{◌≡◌, ℕ, ◌≤◌, false, true, List, Option, Some, None, Ok, Err, refl, sym, ap, subst, inl, inr, arith}
use Rattle.std.specs.Prelude.{IfErr, Result}
use Rattle.base_text_outside.specs.Causes.{Rose, Rose-after}
use Rattle.base_text_outside.specs.Source.{SourceShows-all}
use Rattle.base_text_outside.specs.declared.limits.Limit.TheVariants.{Bytes}
use Rattle.live_page.specs.Reader.{ScriptReader, TellsScriptLine}
use Rattle.live_page.specs.declared.lines.LineError.{LineError}
use Rattle.live_page.specs.declared.lines.LineError.TheVariants.{ReadFault as ReadFault', TooMany as TooMany', OutOfMemory as OutOfMemory', Ended}
use Rattle.live_script.specs.declared.fault.LiveError.{LiveError}
use Rattle.live_script.specs.declared.fault.LiveError.TheVariants.{OutOfMemory, Usage, ReadFault, WriteFault, Script, BadManifest, NoSuchFile, Io, CargoMetadata, NoJson, Json, NotAbsolute, UnknownPackage, BadCrateName, NoParent, NoCargoProject, TooMany}
use Rattle.live_script.specs.Fault.{IsOneOf, IsRefusal, fault_of, line_statuses, run_statuses, status_of, turn_statuses}
use Rattle.live_script.specs.Run.{Completes, Finishes, HasStatusCause, Ran}
use Rattle.live_script.specs.Session.{Outcome, Rules, session_by}
use Rattle.live_script.specs.Written.{HasWriteCause}
use Rattle.live_script.proofs.Statuses.{among}

-- ---- a line

wider : (P Q : LiveError → Type 0) (result : Result (Unit {0}) LiveError) → ((error : LiveError) → P error → Q error) → IfErr result P → IfErr result Q
wider P Q (Ok done) more only = tt
wider P Q (Err error) more only = more error only

-- an error of a turn is one of a line
pub cause_turn : (result : Result (Unit {0}) LiveError) (old new : ℕ) → HasWriteCause result turn_statuses (old, new) → HasWriteCause result line_statuses (old, new)
cause_turn result old new cause = record {
  later = cause.later;
  only = wider _ _ result (λ error only. among turn_statuses line_statuses refl (status_of error) only) cause.only;
  write = cause.write;
  limits = cause.limits;
}

-- no error of a line is a read fault
pub no_read : (error : LiveError) → IsOneOf line_statuses (status_of error) → error ≡ ReadFault → ⊥
no_read error only e = let three : IsOneOf line_statuses 3 = subst (λ x. IsOneOf line_statuses (status_of x)) e only in cc

no_read_status : (error : LiveError) → IsOneOf line_statuses (status_of error) → status_of error ≡ 3 → ⊥
no_read_status error only e = let three : IsOneOf line_statuses 3 = subst (IsOneOf line_statuses) e only in cc

write_fault : (error : LiveError) → status_of error ≡ 4 → error ≡ WriteFault
write_fault OutOfMemory e = absurd (omega arith)
write_fault Usage e = absurd (omega arith)
write_fault ReadFault e = absurd (omega arith)
write_fault WriteFault e = refl
write_fault (Script line) e = absurd (omega arith)
write_fault (BadManifest path) e = absurd (omega arith)
write_fault (NoSuchFile path) e = absurd (omega arith)
write_fault (Io line) e = absurd (omega arith)
write_fault (CargoMetadata stderr) e = absurd (omega arith)
write_fault NoJson e = absurd (omega arith)
write_fault (Json field) e = absurd (omega arith)
write_fault (NotAbsolute text) e = absurd (omega arith)
write_fault (UnknownPackage id) e = absurd (omega arith)
write_fault (BadCrateName name) e = absurd (omega arith)
write_fault (NoParent text) e = absurd (omega arith)
write_fault NoCargoProject e = absurd (omega arith)
write_fault (TooMany limit) e = absurd (omega arith)

-- the cause of a line that failed
pub cause_line : (error : LiveError) (reads reads' writes mid writes' : ℕ) → HasWriteCause {T = Unit {0}} (Err error) line_statuses (mid, writes') → writes ≤ mid
    → HasStatusCause run_statuses (status_of error) (reads, reads') (writes, writes')
cause_line error reads reads' writes mid writes' cause later = record {
  only = among line_statuses run_statuses refl (status_of error) cause.only;
  read = λ e. absurd (no_read_status error cause.only e);
  write = λ e. Rose-after writes mid writes' later (cause.write (ap Err (write_fault error e)));
}

-- the cause of a line that was not given
pub cause_next : (Z : Type 0) (fault : LineError) (error : LiveError) (old new : ScriptReader) (before now reads writes writes' : ℕ) → fault_of fault ≡ Some error
    → TellsScriptLine {Z = Z} (Err fault) old new before now → reads ≤ before → HasStatusCause run_statuses (status_of error) (reads, now) (writes, writes')
cause_next Z ReadFault' error old new before now reads writes writes' is told later =
    let same : ReadFault ≡ error = cc in
    subst (λ e. HasStatusCause run_statuses (status_of e) (reads, now) (writes, writes')) same
    (record { only = refl; read = λ _. Rose-after reads before now later told.rose; write = λ e. absurd (omega arith) })
cause_next Z TooMany' error old new before now reads writes writes' is told later =
    let same : TooMany Bytes ≡ error = cc in
    subst (λ e. HasStatusCause run_statuses (status_of e) (reads, now) (writes, writes')) same
    (record { only = refl; read = λ e. absurd (omega arith); write = λ e. absurd (omega arith) })
cause_next Z OutOfMemory' error old new before now reads writes writes' is told later =
    let same : OutOfMemory ≡ error = cc in
    subst (λ e. HasStatusCause run_statuses (status_of e) (reads, now) (writes, writes')) same
    (record { only = refl; read = λ e. absurd (omega arith); write = λ e. absurd (omega arith) })
cause_next Z Ended error old new before now reads writes writes' is told later = let none : None ≡ Some error = is in absurd (cc)

-- ---- what a run completes

-- with no fault an error is out of memory or the session's refusal
pub completes_err : {P : Type 0} (r : Rules P) (o : Outcome r.State r.Flush) (error : LiveError) (before : List r.Flush) (p : P) (old new : Option (List ℕ)) (reads reads' writes writes' : ℕ)
    → (IsRefusal error → Ran r o (Some error) before p (old, new)) → HasStatusCause run_statuses (status_of error) (reads, reads') (writes, writes') → (Rose reads reads' → ⊥) → (Rose writes writes' → ⊥) → Completes o.refusal (Err error)
completes_err r o OutOfMemory before p old new reads reads' writes writes' refuses cause read write = inl refl
completes_err r o Usage before p old new reads reads' writes writes' refuses cause read write = let only : false ≡ true = cause.only in absurd (cc)
completes_err r o ReadFault before p old new reads reads' writes writes' refuses cause read write = absurd (read (cause.read refl))
completes_err r o WriteFault before p old new reads reads' writes writes' refuses cause read write = absurd (write (cause.write refl))
completes_err r o (Script line) before p old new reads reads' writes writes' refuses cause read write = inr (refuses (omega arith)).refused
completes_err r o (BadManifest path) before p old new reads reads' writes writes' refuses cause read write = inr (refuses (omega arith)).refused
completes_err r o (NoSuchFile path) before p old new reads reads' writes writes' refuses cause read write = inr (refuses (omega arith)).refused
completes_err r o (Io line) before p old new reads reads' writes writes' refuses cause read write = inr (refuses (omega arith)).refused
completes_err r o (CargoMetadata stderr) before p old new reads reads' writes writes' refuses cause read write = inr (refuses (omega arith)).refused
completes_err r o NoJson before p old new reads reads' writes writes' refuses cause read write = inr (refuses (omega arith)).refused
completes_err r o (Json field) before p old new reads reads' writes writes' refuses cause read write = inr (refuses (omega arith)).refused
completes_err r o (NotAbsolute text) before p old new reads reads' writes writes' refuses cause read write = inr (refuses (omega arith)).refused
completes_err r o (UnknownPackage id) before p old new reads reads' writes writes' refuses cause read write = inr (refuses (omega arith)).refused
completes_err r o (BadCrateName name) before p old new reads reads' writes writes' refuses cause read write = inr (refuses (omega arith)).refused
completes_err r o (NoParent text) before p old new reads reads' writes writes' refuses cause read write = inr (refuses (omega arith)).refused
completes_err r o NoCargoProject before p old new reads reads' writes writes' refuses cause read write = inr (refuses (omega arith)).refused
completes_err r o (TooMany limit) before p old new reads reads' writes writes' refuses cause read write = inr (refuses (omega arith)).refused

-- and success is a session with no refusal
pub completes_ok : {P : Type 0} (r : Rules P) (limit : ℕ) (s : r.State) (before : List r.Flush) (all : List ℕ) (p : P) (left₀ left old new : Option (List ℕ)) → left₀ ≡ Some all
    → Finishes r limit s before p (left₀, left) (old, new) → (session_by limit r.turn s all).refusal ≡ None
completes_ok r limit s before all p left₀ left old new known finishes =
    subst (λ bs. (session_by limit r.turn s bs).refusal ≡ None) (sym (SourceShows-all left₀ left all finishes.bytes known finishes.read finishes.at_end)) finishes.ran.refused
