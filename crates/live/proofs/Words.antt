-- What the words of the command line make of a run's answers.
use Rattle.std.proofs.Common.{◌≡◌, ℕ, ◌+◌, List, [], Option, Some, None, Result, Ok, Err, ◌⊎◌, refl, sym, ap, subst, ◌∙◌, inl, inr, arith}
use Rattle.std.specs.Option.{option_map, option_map_or, option_or}
use Rattle.std.specs.Prelude.{IfErr, IsErrOf, OnOk, String, map, string_bytes}
use Rattle.std.specs.declared.alloc.Global.{Global}
use Rattle.std.proofs.KnownBytes.{Consumes-nil}
use Rattle.std.proofs.lemmas.Option.{same_Some}
use Rattle.live_config.specs.Config.{command_of}
use Rattle.live_config.specs.declared.config.Command.TheVariants.{Run}
use Rattle.live_config.specs.declared.config.LiveConfig.{LiveConfig}
use Rattle.live_script.specs.declared.fault.LiveError.{LiveError}
use Rattle.live_script.specs.declared.fault.LiveError.TheVariants.{OutOfMemory, Usage, ReadFault, WriteFault, Script, BadManifest, NoSuchFile, Io, CargoMetadata, NoJson, Json, NotAbsolute, UnknownPackage, BadCrateName, NoParent, NoCargoProject, TooMany}
use Rattle.live_script.specs.Fault.{IsOneOf, all_statuses, run_statuses, status_of, word_statuses}
use Rattle.live_script.specs.Run.{Completes, EndsFrom, Finishes, HasStatusCause, TakesAtMost}
use Rattle.live_script.proofs.Statuses.{among}
use Rattle.live.specs.declared.session.Live.{Live}
use Rattle.live.specs.Cli.{Asked, CompletesAs, EndsWork, FailsFor, FinishesAs, KeepsAlways, ReadsFor, TakesFor, UsageExactly, Work, asked_by, status_for, work_of}
use Rattle.live.specs.Session.{State, session, with_config}
use Rattle.live.specs.Turn.{KeepsNames, live_rules}
use Rattle.live.proofs.Names.{names_equal, names_wider}

-- the status of an answer that completes
completes_status : (refusal : Option LiveError) (result : Result (Unit {0}) LiveError) → Completes refusal result → (status_for result ≡ option_map_or status_of refusal 0) ⊎ (status_for result ≡ 1)
completes_status refusal (Ok done) accepted = inl (sym (ap (λ r. option_map_or status_of r 0) accepted))
completes_status refusal (Err error) (inl memory) = inr (ap status_of memory)
completes_status refusal (Err error) (inr refused) = inl (sym (ap (λ r. option_map_or status_of r 0) refused))

-- a run is not of wrong words
no_usage : (result : Result (Unit {0}) LiveError) (reads reads' writes writes' : ℕ) → IfErr result (λ e. HasStatusCause run_statuses (status_of e) (reads, reads') (writes, writes'))
    → status_for result ≡ 2 → ⊥
no_usage (Ok done) reads reads' writes writes' cause two = omega (arith, two)
no_usage (Err error) reads reads' writes writes' cause two = let only : IsOneOf run_statuses 2 = subst (IsOneOf run_statuses) two cause.only in cc

-- nothing was read for a work
early : (script : Option (List ℕ)) (left : Option (List ℕ)) (most : ℕ) → (read : Option (List ℕ) × Option (List ℕ)) × ReadsFor script (left, left) read × TakesAtMost most read
early None left most = ((left, left), refl, record { bytes = []; read = Consumes-nil left; few = omega arith })
early (Some script) left most = ((Some script, Some script), (refl, refl), record { bytes = []; read = Consumes-nil (Some script); few = omega arith })

-- ---- words that are a command

module _ (words : List (String Global)) (config : LiveConfig) (given : command_of (map string_bytes words) ≡ Some (Run config)) where
  -- their work
  work_given : (asked_by words).work ≡ Some (work_of (Run config))
  work_given = ap (option_map work_of) given

  work_is : (work : Work) → (asked_by words).work ≡ Some work → work ≡ work_of (Run config)
  work_is work is = sym (same_Some (work_of (Run config)) work (sym work_given ∙ is))

  -- what a run from it finished
  pub finishes_given : (s : State) (live : Live) (left left' old new : Option (List ℕ))
      → Finishes live_rules config.limits.bytes (with_config s config) [] live (left, left') (old, new) → FinishesAs (asked_by words) s live (left, left') (old, new)
  finishes_given s live left left' old new finishes = record {
    work = work_of (Run config);
    given = work_given;
    read = (left, left');
    from = refl;
    finishes = finishes;
  }

  -- what ended one
  pub fails_given : (s : State) (error : LiveError) (live live' : Live) (left left' old new : Option (List ℕ))
      → EndsFrom live_rules config.limits.bytes (with_config s config) [] error live' (left, left') (old, new)
      → FailsFor (asked_by words) s error (live, live') (left, left') (old, new)
  fails_given s error live live' left left' old new ends work is =
      inl (subst (λ w. EndsWork w s error live' (left, left') (old, new)) (sym (work_is work is)) (record { read = (left, left'); from = refl; ends = ends }))

  -- what it took
  takes_given : (left left' : Option (List ℕ)) → TakesAtMost (config.limits.bytes + 1) (left, left') → TakesFor (asked_by words) (left, left')
  takes_given left left' taken work is =
      subst (λ (w : Work). (read : Option (List ℕ) × Option (List ℕ)) × ReadsFor w.script (left, left') read × TakesAtMost (w.config.limits.bytes + 1) read) (sym (work_is work is))
      ((left, left'), refl, taken)

  -- and what it completes
  pub completes_given : (s : State) (left : Option (List ℕ)) (result : Result (Unit {0}) LiveError)
      → ((all : List ℕ) → left ≡ Some all → Completes (session (with_config s config) all).refusal result) → CompletesAs (asked_by words) s left (status_for result)
  completes_given s left result done work is all known =
      let here : option_or None left ≡ Some all = ap (λ (w : Work). option_or w.script left) (sym (work_is work is)) ∙ known in
      subst (λ (w : Work). (status_for result ≡ option_map_or status_of (session (with_config s w.config) all).refusal 0) ⊎ (status_for result ≡ 1)) (sym (work_is work is)) (completes_status (session (with_config s config) all).refusal result (done all here))

  -- they are not wrong
  pub usage_given : {U : Type 0} (result : Result (Unit {0}) LiveError) (reads reads' writes writes' : ℕ)
      → IfErr result (λ e. HasStatusCause run_statuses (status_of e) (reads, reads') (writes, writes')) → UsageExactly (asked_by words).work (status_for result) U
  usage_given result reads reads' writes writes' cause = record {
    only = λ two. absurd (no_usage result reads reads' writes writes' cause two);
    always = λ none. let both : Some (work_of (Run config)) ≡ None = sym work_given ∙ none in absurd (cc);
    untouched = λ none. let both : Some (work_of (Run config)) ≡ None = sym work_given ∙ none in absurd (cc);
  }

  -- what is kept always
  pub keeps_given : (result : Result (Unit {0}) LiveError) (live live' : Live) (left left' : Option (List ℕ)) → TakesAtMost (config.limits.bytes + 1) (left, left')
      → KeepsNames (IsErrOf result OutOfMemory) live live' → KeepsAlways (asked_by words) (status_for result) (live, live') (left, left')
  keeps_given result live live' left left' taken names = record {
    taken = takes_given left left' taken;
    names = names_wider live live' (λ out. ap status_for out) names;
  }

-- ---- words that are none, or for which memory ran out

-- wrong words ask nothing
nothing_asked : (words : List (String Global)) → command_of (map string_bytes words) ≡ None → (asked_by words).work ≡ None
nothing_asked words wrong = ap (option_map work_of) wrong

pub fails_wrong : (words : List (String Global)) (s : State) (error : LiveError) (live : Live) (left held : Option (List ℕ)) → command_of (map string_bytes words) ≡ None
    → FailsFor (asked_by words) s error (live, live) (left, left) (held, held)
fails_wrong words s error live left held wrong work is = let both : None ≡ Some work = sym (nothing_asked words wrong) ∙ is in absurd (cc)

pub completes_wrong : (words : List (String Global)) (s : State) (left : Option (List ℕ)) (status : ℕ) → command_of (map string_bytes words) ≡ None → CompletesAs (asked_by words) s left status
completes_wrong words s left status wrong work is = let both : None ≡ Some work = sym (nothing_asked words wrong) ∙ is in absurd (cc)

pub usage_wrong : {U : Type 0} (words : List (String Global)) → command_of (map string_bytes words) ≡ None → U → UsageExactly (asked_by words).work 2 U
usage_wrong words wrong same = record { only = λ _. nothing_asked words wrong; always = λ _. inl refl; untouched = λ _. same }

-- out of memory
pub fails_memory : (words : List (String Global)) (s : State) (live : Live) (left held : Option (List ℕ)) → FailsFor (asked_by words) s OutOfMemory (live, live) (left, left) (held, held)
fails_memory words s live left held work is = inr (record { memory = refl; unread = refl; unwritten = refl }, refl)

pub completes_memory : (words : List (String Global)) (s : State) (left : Option (List ℕ)) → CompletesAs (asked_by words) s left 1
completes_memory words s left work is all known = inr refl

pub usage_memory : {U : Type 0} (words : List (String Global)) → U → UsageExactly (asked_by words).work 1 U
usage_memory words same = record { only = λ two. absurd (omega (arith, two)); always = λ _. inr refl; untouched = λ _. same }

-- no run, and a session that is as it was
pub takes_early : (asked : Asked) (left : Option (List ℕ)) → TakesFor asked (left, left)
takes_early asked left work is = early work.script left (work.config.limits.bytes + 1)

pub keeps_early : (words : List (String Global)) (status : ℕ) (live : Live) (left : Option (List ℕ)) → KeepsAlways (asked_by words) status (live, live) (left, left)
keeps_early words status live left = record { taken = takes_early (asked_by words) left; names = names_equal live live refl }

-- what the causes of a run are with more statuses
wider_words : (error : LiveError) → IsOneOf run_statuses (status_of error) → IsOneOf word_statuses (status_of error)
wider_words error only = among run_statuses word_statuses refl (status_of error) only

wider_status : (error : LiveError) → IsOneOf all_statuses (status_of error)
wider_status OutOfMemory = refl
wider_status Usage = refl
wider_status ReadFault = refl
wider_status WriteFault = refl
wider_status (Script line) = refl
wider_status (BadManifest path) = refl
wider_status (NoSuchFile path) = refl
wider_status (Io line) = refl
wider_status (CargoMetadata stderr) = refl
wider_status NoJson = refl
wider_status (Json field) = refl
wider_status (NotAbsolute text) = refl
wider_status (UnknownPackage id) = refl
wider_status (BadCrateName name) = refl
wider_status (NoParent text) = refl
wider_status NoCargoProject = refl
wider_status (TooMany limit) = refl

pub cause_words : (error : LiveError) (reads reads' writes writes' : ℕ) → HasStatusCause run_statuses (status_of error) (reads, reads') (writes, writes')
    → HasStatusCause word_statuses (status_of error) (reads, reads') (writes, writes')
cause_words error reads reads' writes writes' cause = record { only = wider_words error cause.only; read = cause.read; write = cause.write }

pub cause_status : (error : LiveError) (reads reads' writes writes' : ℕ) → HasStatusCause word_statuses (status_of error) (reads, reads') (writes, writes')
    → HasStatusCause all_statuses (status_of error) (reads, reads') (writes, writes')
cause_status error reads reads' writes writes' cause = record { only = wider_status error; read = cause.read; write = cause.write }

pub cause_result : (error : LiveError) (status reads reads' writes writes' : ℕ) → status ≡ status_of error → HasStatusCause word_statuses (status_of error) (reads, reads') (writes, writes')
    → HasStatusCause all_statuses status (reads, reads') (writes, writes')
cause_result error status reads reads' writes writes' is cause =
    subst (λ n. HasStatusCause all_statuses n (reads, reads') (writes, writes')) (sym is) (cause_status error reads reads' writes writes' cause)

-- what holds of each outcome
pub on_ok : {T E A B : Type 0} (result : Result T E) → (A → B) → OnOk result A → OnOk result B
on_ok (Ok x) more h = more h
on_ok (Err e) more h = tt

pub if_err : {T E : Type 0} {P Q : E → Type 0} (result : Result T E) → ((e : E) → P e → Q e) → IfErr result P → IfErr result Q
if_err (Ok x) more h = tt
if_err (Err e) more h = more e h
