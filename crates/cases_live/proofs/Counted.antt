-- The turns of a count.
use Rattle.std.proofs.Common.{◌≡◌, ℕ, ◌+◌, ◌<◌, ◌≤◌, true, false, List, [], ◌∷◌, ◌++◌, Option, Some, Result, Ok, Err, ◌⊎◌, inl, inr, refl, sym, ap, subst, ◌∙◌, nat_lt, arith}
use Rattle.std.specs.Prelude.{IfErr, OnErr, OnOk}
use Rattle.std.specs.Io.KnownBytes.{Appends}
use Rattle.std.proofs.lemmas.Bool.Decides.{nat_tests}
use Rattle.base_text_outside.specs.Sink.{AppendsPart}
use Rattle.base_text_outside.specs.declared.limits.Limit.TheVariants.{Bytes, Paths}
use Rattle.live_page.specs.declared.event.Event.TheVariants.{Flush}
use Rattle.live_script.specs.declared.fault.LiveError.{LiveError}
use Rattle.live_script.specs.declared.fault.LiveError.TheVariants.{OutOfMemory, TooMany, WriteFault}
use Rattle.live_script.specs.Fault.{IsOneOf, IsRefusal, flush_statuses, status_of, turn_statuses}
use Rattle.live_script.specs.Turn.{EndsTurn, StaysOn, TakesTurn}
use Rattle.live_script.specs.Session.{takes}
use Rattle.live_script.specs.Written.{AppendsFront, HasWriteCause}
use Rattle.live_script.proofs.Statuses.{among}
use Rattle.live_script.proofs.Turns.{leaves_flush, refuses_quietly, takes_flush, takes_quietly}
use Rattle.cases_live.specs.declared.tally.Tally.{Tally}
use Rattle.cases_live.specs.Tally.{HoldsTally, TallyState, count_turn, last_of, most_files, tally_rules, tally_text, tally_turn}

-- the last of flushes behind which one more comes
pub last_more : (before : List ℕ) (files : ℕ) → last_of (before ++ files ∷ []) ≡ Some files
last_more [] files = refl
last_more (f ∷ []) files = refl
last_more (f ∷ g ∷ fs) files = last_more (g ∷ fs) files

-- one more file that there is room for
pub takes_count : (p p' : Tally) (result : Result (Unit {0}) LiveError) (held : Option (List ℕ))
    → OnOk result ((p.files < most_files) × (p'.files ≡ p.files + 1) × (p'.last ≡ p.last))
    → OnOk result ((s : TallyState) (before : List ℕ) → HoldsTally p before s → TakesTurn tally_rules (count_turn s) before p' (held, held))
takes_count p p' (Ok done) held counts = λ s before h.
    let room : nat_lt s.files most_files ≡ true = let few : s.files < most_files = omega (arith, counts.0, h.files) in grind (arith, nat_tests) in
    rw room (takes_quietly tally_rules before p' _ held refl refl (record { files = counts.1 ∙ ap (λ n. n + 1) h.files; last = counts.2 ∙ h.last }))
takes_count p p' (Err error) held counts = tt

-- and one that there is none for
pub refuses_count : (p p' : Tally) (result : Result (Unit {0}) LiveError) (held : Option (List ℕ))
    → OnErr result ((most_files ≤ p.files) × (p' ≡ p)) → IfErr result (λ e. e ≡ TooMany Paths)
    → IfErr result (λ e. (s : TallyState) (before : List ℕ) → HoldsTally p before s → EndsTurn tally_rules (count_turn s) (λ left. left ≡ s) e before p' (held, held))
refuses_count p p' (Ok done) held full only = tt
refuses_count p p' (Err error) held full only = λ s before h.
    let none : nat_lt s.files most_files ≡ false = let many : most_files ≤ s.files = omega (arith, full.0, h.files) in grind (arith, nat_tests) in
    subst (λ e. EndsTurn tally_rules (count_turn s) (λ left. left ≡ s) e before p' (held, held)) (sym only)
    (rw none (refuses_quietly tally_rules before p' _ (λ left. left ≡ s) (TooMany Paths) held refl (λ e. cc) refl refl (subst (λ q. HoldsTally q before s) (sym full.1) h)))

pub count_cause : (result : Result (Unit {0}) LiveError) (count : ℕ) → IfErr result (λ e. e ≡ TooMany Paths) → HasWriteCause result turn_statuses (count, count)
count_cause (Ok done) count only = record { later = omega arith; only = tt; write = λ e. absurd (cc); limits = λ e. cc }
count_cause (Err error) count only = record {
  later = omega arith;
  only = subst (λ e. IsOneOf turn_statuses (status_of e)) (sym only) refl;
  write = λ e. absurd (let is : error ≡ WriteFault = cc in let both = sym only ∙ is in cc);
  limits = λ e. let is : error ≡ TooMany Bytes = cc in let both = sym only ∙ is in cc;
}

-- a flush whose text was written
pub takes_counted : (p p' : Tally) (old new : Option (List ℕ)) → Appends old new (tally_text p.last p.files) → p'.files ≡ 0 → p'.last ≡ Some p.files
    → (s : TallyState) (before : List ℕ) → HoldsTally p before s → TakesTurn tally_rules (tally_turn s Flush) before p' (old, new)
takes_counted p p' old new written files last s before h =
    takes_flush tally_rules before p' (tally_turn s Flush) s.files old new refl refl
    (record { files = files; last = last ∙ ap Some h.files ∙ sym (last_more before s.files) })
    (subst (Appends old new) (λ i. tally_text (h.last i) (h.files i)) written)

-- and one whose text was not
pub fails_counted : (p : Tally) (error : LiveError) (old new : Option (List ℕ)) → (error ≡ OutOfMemory) ⊎ (error ≡ WriteFault) → AppendsFront (old, new) (tally_text p.last p.files ∷ [])
    → (error ≡ WriteFault → AppendsPart old new (tally_text p.last p.files))
    → (s : TallyState) (before : List ℕ) → HoldsTally p before s → EndsTurn tally_rules (tally_turn s Flush) (λ left. left ≡ s) error before p (old, new)
fails_counted p error old new only front cut s before h =
    let same : tally_text p.last p.files ≡ tally_text (last_of before) s.files = λ i. tally_text (h.last i) (h.files i) in
    leaves_flush tally_rules before p (tally_turn s Flush) (λ left. left ≡ s) error s.files old new s (no-refusal error only) refl refl h
    (subst (λ text. AppendsFront (old, new) (text ∷ [])) same front) (λ e. subst (AppendsPart old new) same (cut e))
  where
    no-refusal : (error : LiveError) → (error ≡ OutOfMemory) ⊎ (error ≡ WriteFault) → IsRefusal error → ⊥
    no-refusal error (inl memory) refusal = let r : IsRefusal OutOfMemory = subst IsRefusal memory refusal in omega (arith, r)
    no-refusal error (inr fault) refusal = let r : IsRefusal WriteFault = subst IsRefusal fault refusal in omega (arith, r)

flush_only : (result : Result (Unit {0}) LiveError) → IfErr result (λ error. IsOneOf flush_statuses (status_of error)) → IfErr result (λ error. IsOneOf turn_statuses (status_of error))
flush_only (Ok done) only = tt
flush_only (Err error) only = among flush_statuses turn_statuses refl (status_of error) only

-- an error of a flush is one of a turn
pub flush_cause : (result : Result (Unit {0}) LiveError) (old new : ℕ) → HasWriteCause result flush_statuses (old, new) → HasWriteCause result turn_statuses (old, new)
flush_cause result old new cause = record { later = cause.later; only = flush_only result cause.only; write = cause.write; limits = cause.limits }

-- ---- other events

-- one that counts nothing
pub takes_other : (p : Tally) (held : Option (List ℕ)) (s : TallyState) (before : List ℕ) → HoldsTally p before s → TakesTurn tally_rules (takes s []) before p (held, held)
takes_other p held s before h = takes_quietly tally_rules before p (takes s []) held refl refl h

-- nothing is kept of a count, which never ends
pub tally_stays : (result : Result (Unit {0}) LiveError) (old new : Tally) → StaysOn (λ p. ⊥) (λ r before after. Unit {0}) result old new
tally_stays result old new = record { kept = tt; going = on_going result }
  where
    on_going : (result : Result (Unit {0}) LiveError) → OnOk result (⊥ → ⊥)
    on_going (Ok done) = λ ended. ended
    on_going (Err error) = tt
