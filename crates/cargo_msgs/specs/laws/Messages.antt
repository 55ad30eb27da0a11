-- what is read of a message's document is read again from what is written of it
use Rattle.std.specs.Prelude.{◌≡◌, ◌-◌, ◌≤◌, if◌then◌else◌, ℕ, suc, max, Bool, true, false, List, codes, bytes_eq, refl}
use Rattle.std.proofs.Common.{◌∙◌, arith, ap, cond, Ok, Some}
use Rattle.serde_json.specs.Data.{Data, Members, depth, members_depth, null, boolean, number, string, array, object}
use Rattle.serde_json.specs.Find.{get_member}
use Rattle.serde_json.specs.Written.{has_float, members_have_float}
use Rattle.json_fields.specs.Fields.{default_member, optional_member, required_member, text_at, under}
use Rattle.json_fields.specs.Laws.Rows.{get_member-set_member}
use Rattle.json_fields.specs.Laws.RoundTrips.{AreWithin, AreWritten, ReadsAs, and_then, at_last, no_members-written, required_member-kept, set_member-written, table-round_trips, text-round_trips, under-as, weaker}
use Rattle.json_fields.specs.Outcome.{Reading}
use Rattle.json_fields.specs.RoundTrip.{IsKept, RoundTrips}
use Rattle.json_fields.specs.Written.{set_member}
use Rattle.cargo_meta_values.specs.laws.Names.{package_id-round_trips}
use Rattle.cargo_meta_values.specs.laws.Target.{target-round_trips}
use Rattle.cargo_msgs.specs.laws.Diagnostic.{diagnostic-round_trips}
use Rattle.cargo_msgs.specs.Artifact.{artifact_at, artifact_data, artifact_from}
use Rattle.cargo_msgs.specs.Build.{build_finished_at, build_finished_data, build_finished_from, build_script_at, build_script_data, build_script_from}
use Rattle.cargo_msgs.specs.Messages.{compiler_message_at, compiler_message_data, compiler_message_from, message_at, message_by, message_data, message_from, with_reason}
use Rattle.cargo_msgs.specs.laws.Artifact.{artifact-round_trips}
use Rattle.cargo_msgs.specs.laws.Build.{build_finished-round_trips, build_script-round_trips}
use Rattle.cargo_msgs.specs.declared.artifact.Artifact.{Artifact}
use Rattle.cargo_msgs.specs.declared.build.BuildFinished.{BuildFinished}
use Rattle.cargo_msgs.specs.declared.build.BuildScript.{BuildScript}
use Rattle.cargo_msgs.specs.declared.messages.CompilerMessage.{CompilerMessage}
use Rattle.cargo_msgs.specs.declared.messages.Message.TheVariants as message

-- what the compiler said
pub compiler_message-round_trips : RoundTrips compiler_message_at compiler_message_data 3
unfolding compiler_message_at compiler_message_from compiler_message_data required_member set_member
compiler_message-round_trips = table-round_trips _ compiler_message_data 3 λ ms.
    let n = max 2 (members_depth ms) in
    let within : AreWithin n ms = record { within = omega arith } in
    let none : 0 ≤ n = omega arith in
    let two : 2 ≤ n = omega arith in
    and_then (required_member-kept package_id-round_trips none within (codes "package_id"))
    λ package_id package_id_h.
    and_then (required_member-kept target-round_trips two within (codes "target")) λ target target_h.
    and_then (required_member-kept diagnostic-round_trips none within (codes "message"))
    λ diagnostic diagnostic_h.
    let written =
    set_member-written (codes "message") diagnostic_h
    (set_member-written (codes "target") target_h
    (set_member-written (codes "package_id") package_id_h (no_members-written _ _)))
    in
    at_last
    (record {
      again = rw (target_h.again, diagnostic_h.again) refl;
      clean = written.clean;
      nests = omega (arith, written.nests);
    })

-- an object with a reason holds a float where the object does, and nests as deep
module _ (reason : List ℕ) (may_float : Bool) (n : ℕ) (some : 1 ≤ n) where
  reason-written : (ms : Members) → (may_float ≡ false → has_float (object ms) ≡ false)
      → depth (object ms) ≤ n → AreWritten may_float (n - 1) (set_member (codes "reason") (string reason) ms)
  reason-written ms clean nests =
      let text : IsKept text_at string may_float (n - 1) reason =
      record { again = refl; clean = λ _. refl; nests = omega arith } in
      set_member-written (codes "reason") text (record { clean = clean; nests = omega (arith, nests) })

  reason-clean : (d : Data) → (may_float ≡ false → has_float d ≡ false) → depth d ≤ n → may_float ≡ false
      → has_float (with_reason reason d) ≡ false
  reason-clean null clean nests = clean
  reason-clean (boolean b) clean nests = clean
  reason-clean (number m) clean nests = clean
  reason-clean (string s) clean nests = clean
  reason-clean (array ds) clean nests = clean
  reason-clean (object ms) clean nests = (reason-written ms clean nests).clean

  reason-nests : (d : Data) → (may_float ≡ false → has_float d ≡ false) → depth d ≤ n
      → depth (with_reason reason d) ≤ n
  reason-nests null clean nests = nests
  reason-nests (boolean b) clean nests = nests
  reason-nests (number m) clean nests = nests
  reason-nests (string s) clean nests = nests
  reason-nests (array ds) clean nests = nests
  reason-nests (object ms) clean nests =
      let written = reason-written ms clean nests in omega (arith, written.nests, some)

-- a row finds what it found before the reason was put in
get_past_reason : (k : List ℕ) (d : Data) (ms : Members) → bytes_eq k (codes "reason") ≡ false
    → get_member k (set_member (codes "reason") d ms) ≡ get_member k ms
get_past_reason k d ms differs =
    get_member-set_member k (codes "reason") d ms ∙ ap (λ b. cond b (Some d) (get_member k ms)) differs

-- and the reason is found
here : (reason : List ℕ) (ms : Members)
    → get_member (codes "reason") (set_member (codes "reason") (string reason) ms) ≡ Some (string reason)
here reason ms = get_member-set_member (codes "reason") (codes "reason") (string reason) ms

-- so no table of a message looks at the reason
artifact_from-other : (d : Data) (ms : Members)
    → artifact_from (set_member (codes "reason") d ms) ≡ artifact_from ms
unfolding artifact_from required_member optional_member default_member
artifact_from-other d ms =
    rw (
      get_past_reason (codes "package_id") d ms refl,
      get_past_reason (codes "manifest_path") d ms refl,
      get_past_reason (codes "target") d ms refl,
      get_past_reason (codes "profile") d ms refl,
      get_past_reason (codes "features") d ms refl,
      get_past_reason (codes "filenames") d ms refl,
      get_past_reason (codes "executable") d ms refl,
      get_past_reason (codes "fresh") d ms refl,
    ) refl

compiler_message_from-other : (d : Data) (ms : Members)
    → compiler_message_from (set_member (codes "reason") d ms) ≡ compiler_message_from ms
unfolding compiler_message_from required_member
compiler_message_from-other d ms =
    rw
    (get_past_reason (codes "package_id") d ms refl, get_past_reason (codes "target") d ms refl, get_past_reason (codes "message") d ms refl)
    refl

build_script_from-other : (d : Data) (ms : Members)
    → build_script_from (set_member (codes "reason") d ms) ≡ build_script_from ms
unfolding build_script_from required_member default_member
build_script_from-other d ms =
    rw (
      get_past_reason (codes "package_id") d ms refl,
      get_past_reason (codes "linked_libs") d ms refl,
      get_past_reason (codes "linked_paths") d ms refl,
      get_past_reason (codes "cfgs") d ms refl,
      get_past_reason (codes "env") d ms refl,
      get_past_reason (codes "out_dir") d ms refl,
    ) refl

build_finished_from-other : (d : Data) (ms : Members)
    → build_finished_from (set_member (codes "reason") d ms) ≡ build_finished_from ms
unfolding build_finished_from required_member
build_finished_from-other d ms = rw (get_past_reason (codes "success") d ms refl) refl

-- what is read of an object is the message once the reason is put in
artifact-again : (d : Data) (a : Artifact) → artifact_at d ≡ Ok a
    → message_at (with_reason (codes "compiler-artifact") d) ≡ Ok (message.CompilerArtifact a)
unfolding artifact_at message_at message_from message_by required_member
artifact-again null a h = absurd (cc)
artifact-again (boolean b) a h = absurd (cc)
artifact-again (number m) a h = absurd (cc)
artifact-again (string s) a h = absurd (cc)
artifact-again (array ds) a h = absurd (cc)
artifact-again (object ms) a h =
    rw (here (codes "compiler-artifact") ms)
    (ap (under message.CompilerArtifact) (artifact_from-other (string (codes "compiler-artifact")) ms ∙ h))

compiler_message-again : (d : Data) (c : CompilerMessage) → compiler_message_at d ≡ Ok c
    → message_at (with_reason (codes "compiler-message") d) ≡ Ok (message.CompilerMessage c)
unfolding compiler_message_at message_at message_from message_by required_member
compiler_message-again null c h = absurd (cc)
compiler_message-again (boolean b) c h = absurd (cc)
compiler_message-again (number m) c h = absurd (cc)
compiler_message-again (string s) c h = absurd (cc)
compiler_message-again (array ds) c h = absurd (cc)
compiler_message-again (object ms) c h =
    rw (here (codes "compiler-message") ms)
    (ap (under message.CompilerMessage) (compiler_message_from-other (string (codes "compiler-message")) ms
    ∙ h))

build_script-again : (d : Data) (x : BuildScript) → build_script_at d ≡ Ok x
    → message_at (with_reason (codes "build-script-executed") d) ≡ Ok (message.BuildScriptExecuted x)
unfolding build_script_at message_at message_from message_by required_member
build_script-again null x h = absurd (cc)
build_script-again (boolean b) x h = absurd (cc)
build_script-again (number m) x h = absurd (cc)
build_script-again (string s) x h = absurd (cc)
build_script-again (array ds) x h = absurd (cc)
build_script-again (object ms) x h =
    rw (here (codes "build-script-executed") ms)
    (ap (under message.BuildScriptExecuted) (build_script_from-other (string (codes "build-script-executed")) ms
    ∙ h))

build_finished-again : (d : Data) (f : BuildFinished) → build_finished_at d ≡ Ok f
    → message_at (with_reason (codes "build-finished") d) ≡ Ok (message.BuildFinished f)
unfolding build_finished_at message_at message_from message_by required_member
build_finished-again null f h = absurd (cc)
build_finished-again (boolean b) f h = absurd (cc)
build_finished-again (number m) f h = absurd (cc)
build_finished-again (string s) f h = absurd (cc)
build_finished-again (array ds) f h = absurd (cc)
build_finished-again (object ms) f h =
    rw (here (codes "build-finished") ms)
    (ap (under message.BuildFinished) (build_finished_from-other (string (codes "build-finished")) ms ∙ h))

module _ (may_float : Bool) (n : ℕ) (some : 1 ≤ n) where
  -- a message of each reason
  artifact-kept : (a : Artifact) → IsKept artifact_at artifact_data may_float n a
      → IsKept message_at message_data may_float n (message.CompilerArtifact a)
  artifact-kept a h = record {
    again = artifact-again (artifact_data a) a h.again;
    clean = reason-clean (codes "compiler-artifact") may_float n some (artifact_data a) h.clean h.nests;
    nests = reason-nests (codes "compiler-artifact") may_float n some (artifact_data a) h.clean h.nests;
  }

  compiler_message-kept : (c : CompilerMessage)
      → IsKept compiler_message_at compiler_message_data may_float n c
      → IsKept message_at message_data may_float n (message.CompilerMessage c)
  compiler_message-kept c h = record {
    again = compiler_message-again (compiler_message_data c) c h.again;
    clean =
        reason-clean (codes "compiler-message") may_float n some (compiler_message_data c) h.clean h.nests;
    nests =
        reason-nests (codes "compiler-message") may_float n some (compiler_message_data c) h.clean h.nests;
  }

  build_script-kept : (x : BuildScript) → IsKept build_script_at build_script_data may_float n x
      → IsKept message_at message_data may_float n (message.BuildScriptExecuted x)
  build_script-kept x h = record {
    again = build_script-again (build_script_data x) x h.again;
    clean =
        reason-clean (codes "build-script-executed") may_float n some (build_script_data x) h.clean h.nests;
    nests =
        reason-nests (codes "build-script-executed") may_float n some (build_script_data x) h.clean h.nests;
  }

  build_finished-kept : (f : BuildFinished) → IsKept build_finished_at build_finished_data may_float n f
      → IsKept message_at message_data may_float n (message.BuildFinished f)
  build_finished-kept f h = record {
    again = build_finished-again (build_finished_data f) f h.again;
    clean = reason-clean (codes "build-finished") may_float n some (build_finished_data f) h.clean h.nests;
    nests = reason-nests (codes "build-finished") may_float n some (build_finished_data f) h.clean h.nests;
  }

-- a bound may be raised
deeper : {T : Type 0} {reads : Data → Reading T} {writes : T → Data} {may_float : Bool} {x : T} (k : ℕ)
    → IsKept reads writes may_float (max 0 (suc k)) x → IsKept reads writes may_float (max 3 (suc k)) x
deeper k h = record { again = h.again; clean = h.clean; nests = omega (arith, h.nests) }

-- each of two readings has a property
either-as : {A : Type 0} {P : A → Type 0} (b : Bool) {r s : Reading A} → ReadsAs r P → ReadsAs s P
    → ReadsAs (if b then r else s) P
either-as true first second = first
either-as false first second = second

-- what is read of an object by its reason is kept
message_by-kept : (reason : List ℕ) (ms : Members)
    → ReadsAs (message_by reason ms)
    (IsKept message_at message_data (members_have_float ms) (max 3 (suc (members_depth ms))))
unfolding message_by artifact_at compiler_message_at build_script_at build_finished_at
message_by-kept reason ms =
    let f = members_have_float ms in
    let n = max 3 (suc (members_depth ms)) in
    let some : 1 ≤ n = omega arith in
    either-as (bytes_eq reason (codes "compiler-artifact"))
    (under-as message.CompilerArtifact {r = artifact_from ms} (weaker (artifact-kept f n some) (record {
      holds = artifact-round_trips.keeps (object ms);
    })))
    (either-as (bytes_eq reason (codes "compiler-message"))
    (under-as message.CompilerMessage {r = compiler_message_from ms} (weaker (compiler_message-kept f n some) (record {
      holds = compiler_message-round_trips.keeps (object ms);
    })))
    (either-as (bytes_eq reason (codes "build-script-executed"))
    (under-as message.BuildScriptExecuted {r = build_script_from ms} (weaker (λ s h. build_script-kept f n some s (deeper (members_depth ms) h)) (record {
      holds = build_script-round_trips.keeps (object ms);
    })))
    (either-as (bytes_eq reason (codes "build-finished"))
    (under-as message.BuildFinished {r = build_finished_from ms} (weaker (λ b h. build_finished-kept f n some b (deeper (members_depth ms) h)) (record {
      holds = build_finished-round_trips.keeps (object ms);
    })))
    (record { holds = tt }))))

-- messages
pub message-round_trips : RoundTrips message_at message_data 3
unfolding message_at message_from
message-round_trips = table-round_trips _ message_data 3 λ ms.
    let within : AreWithin (members_depth ms) ms = record { within = omega arith } in
    let none : 0 ≤ members_depth ms = omega arith in
    and_then (required_member-kept text-round_trips none within (codes "reason"))
    λ reason reason_h. message_by-kept reason ms
