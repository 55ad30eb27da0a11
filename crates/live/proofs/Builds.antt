-- One event that is a build: what it gives the project, or why it is refused.
use Rattle.std.proofs.Common.{◌≡◌, ℕ, Bool, true, false, cond, List, [], Option, Some, None, Result, Ok, Err, inl, inr, ◌⊎◌, refl, sym, ap, subst, ◌∙◌, arith}
use Rattle.std.specs.Prelude.{IfErr, IsErrOf, OnErr, OnOk, is_err}
use Rattle.base_text_outside.specs.Sink.{Appends-nil}
use Rattle.base_text_outside.specs.declared.command.Output.{Output}
use Rattle.base_text_outside.specs.declared.limits.Limit.TheVariants.{Bytes}
use Rattle.pm_tools.specs.Reading.{Reading}
use Rattle.pm_tools.specs.declared.build_error.BuildError.{BuildError}
use Rattle.pm_tools.specs.declared.build_error.BuildError.TheVariants as build
use Rattle.pm_lower.specs.ProjectWorkspace.{has_cargo_workspace}
use Rattle.live_project.specs.Build.{built_project}
use Rattle.live_project.specs.Project.{ProjectContent}
use Rattle.live_page.specs.declared.event.Event.{Event}
use Rattle.live_page.specs.declared.event.Event.TheVariants.{Build, Flush}
use Rattle.live_script.specs.declared.fault.LiveError.{LiveError}
use Rattle.live_script.specs.declared.fault.LiveError.TheVariants.{NoCargoProject, OutOfMemory, TooMany, WriteFault}
use Rattle.live.specs.declared.session.Live.{Live}
use Rattle.live_script.specs.Fault.{IsOneOf, of_build_error, status_of, turn_statuses}
use Rattle.live.specs.Marked.{BuildsProject, FailsBuild}
use Rattle.live.specs.Session.{State, build_turn, built_turn, of_building, project_after_build, state_after_failure, turn}
use Rattle.live.specs.Turn.{EndsLiveTurn, Holds, LeavesAsWas, TakesLiveTurn}
use Rattle.live_script.specs.Written.{HasWriteCause}
use Rattle.live.proofs.Loads.{Holds-project, memory_cause, memory_ends, others_leave}
use Rattle.live_script.proofs.Texts.{AppendsFront-nil}

-- ---- refusals

-- why a build is refused: there is no project with a Cargo workspace, or its outputs are refused
abbrev IsBuildRefusal : LiveError → Type 0
IsBuildRefusal error = (error ≡ NoCargoProject) ⊎ ((refusal : BuildError) × (error ≡ of_build_error refusal))

building-refused : (reading : Reading ProjectContent) (error : LiveError) → of_building reading ≡ Err error → IsBuildRefusal error
building-refused (Ok project) error is = absurd (cc)
building-refused (Err refusal) error is = inr (refusal, (let told : of_build_error refusal ≡ error = cc in sym told))

build-refused : (project : Option ProjectContent) (output : Output) (error : LiveError) → project_after_build project output ≡ Err error → IsBuildRefusal error
build-refused None output error is = inl (let told : NoCargoProject ≡ error = cc in sym told)
build-refused (Some project) output error is = by (has_cargo_workspace project.workspace.kind) is
  where
    by : (has : Bool) → cond has (of_building (built_project project output)) (Err NoCargoProject) ≡ Err error → IsBuildRefusal error
    by true e = building-refused (built_project project output) error e
    by false e = inl (let told : NoCargoProject ≡ error = cc in sym told)

build-status : (refusal : BuildError) → IsOneOf turn_statuses (status_of (of_build_error refusal))
build-status (build.Io line) = refl
build-status (build.NotAbsolute text) = refl
build-status build.OutOfMemory = refl

no-build_fault : (refusal : BuildError) → of_build_error refusal ≡ WriteFault → ⊥
no-build_fault (build.Io line) e = cc
no-build_fault (build.NotAbsolute text) e = cc
no-build_fault build.OutOfMemory e = cc

no-build_limit : (refusal : BuildError) → of_build_error refusal ≡ TooMany Bytes → ⊥
no-build_limit (build.Io line) e = cc
no-build_limit (build.NotAbsolute text) e = cc
no-build_limit build.OutOfMemory e = cc

refusal-status : (error : LiveError) → IsBuildRefusal error → IsOneOf turn_statuses (status_of error)
refusal-status error (inl none) = subst (λ e. IsOneOf turn_statuses (status_of e)) (sym none) refl
refusal-status error (inr of) = subst (λ e. IsOneOf turn_statuses (status_of e)) (sym of.1) (build-status of.0)

no-write : (error : LiveError) → IsBuildRefusal error → error ≡ WriteFault → ⊥
no-write error (inl none) is = let same = sym none ∙ is in cc
no-write error (inr of) is = no-build_fault of.0 (sym of.1 ∙ is)

no-limit : (error : LiveError) → IsBuildRefusal error → error ≡ TooMany Bytes → ⊥
no-limit error (inl none) is = let same = sym none ∙ is in cc
no-limit error (inr of) is = no-build_limit of.0 (sym of.1 ∙ is)

-- ---- turns

-- what the session has of a build is the turn of the state
build-is : (live : Live) (s : State) → Holds live s → (output : Output) (outcome : Result ProjectContent LiveError)
    → project_after_build live.project output ≡ outcome → build_turn s output ≡ built_turn s outcome
build-is live s h output outcome is = ap (built_turn s) (ap (λ p. project_after_build p output) (sym h.project) ∙ is)

-- a build that is taken
pub takes_build : (live live' : Live) (output : Output) (result : Result (Unit {0}) LiveError) (held : Option (List ℕ)) (event : Event) → event ≡ Build output
    → OnOk result (BuildsProject live live' output) → OnOk result ((s : State) → Holds live s → TakesLiveTurn (turn s event) live' (held, held))
unfolding turn
takes_build live live' output (Ok done) held event is builds = λ s h.
    subst (λ e. TakesLiveTurn (turn s e) live' (held, held)) (sym is)
    (subst (λ t. TakesLiveTurn t live' (held, held)) (sym (build-is live s h output (Ok builds.project) builds.given))
    (record { accepted = refl; holds = Holds-project live live' s h builds.project builds.after; appended = Appends-nil held }))
takes_build live live' output (Err error) held event is builds = tt

-- one that is refused
refused_ends : (live live' : Live) (output : Output) (s : State) (error : LiveError) (held : Option (List ℕ)) → Holds live s → live' ≡ live
    → project_after_build live.project output ≡ Err error → EndsLiveTurn (build_turn s output) s error live' (held, held)
refused_ends live live' output s error held h same refused =
    let holds : Holds live' s = subst (λ l. Holds l s) (sym same) h in
    subst (λ t. EndsLiveTurn t s error live' (held, held)) (sym (build-is live s h output (Err error) refused)) (record {
      written = AppendsFront-nil held [];
      cut = λ e. absurd (no-write error (build-refused live.project output error refused) e);
      refused = λ refusal. record { refused = refl; holds = holds; appended = Appends-nil held };
      state = s;
      left = refl;
      holds = holds;
    })

pub fails_build : (live live' : Live) (output : Output) (result : Result (Unit {0}) LiveError) (held : Option (List ℕ)) (event : Event) → event ≡ Build output
    → IfErr result (FailsBuild live output) → OnErr result (live' ≡ live)
    → IfErr result (λ e. (s : State) → Holds live s → EndsLiveTurn (turn s event) (state_after_failure s event) e live' (held, held))
unfolding turn
fails_build live live' output (Ok done) held event is fails same = tt
fails_build live live' output (Err error) held event is (inl memory) same = λ s h.
    memory_ends live live' s (state_after_failure s event) error held event memory
    (subst (λ e. Holds live' (state_after_failure s e)) (sym is) (subst (λ l. Holds l s) (sym same) h))
fails_build live live' output (Err error) held event is (inr refused) same = λ s h.
    subst (λ e. EndsLiveTurn (turn s e) (state_after_failure s e) error live' (held, held)) (sym is) (refused_ends live live' output s error held h same refused)

-- ---- causes, and what stays

pub build_cause : (project : Option ProjectContent) (output : Output) (result : Result (Unit {0}) LiveError) (count : ℕ)
    → IfErr result (λ e. (e ≡ OutOfMemory) ⊎ (project_after_build project output ≡ Err e)) → HasWriteCause result turn_statuses (count, count)
build_cause project output (Ok done) count fails = memory_cause (Ok done) count tt
build_cause project output (Err error) count (inl memory) = memory_cause (Err error) count memory
build_cause project output (Err error) count (inr refused) =
    let is : IsBuildRefusal error = build-refused project output error refused in
    record {
      later = omega arith;
      only = refusal-status error is;
      write = λ e. absurd (let fault : error ≡ WriteFault = cc in no-write error is fault);
      limits = λ e. let limit : error ≡ TooMany Bytes = cc in no-limit error is limit;
    }

pub build_leaves : (live live' : Live) (output : Output) (result : Result (Unit {0}) LiveError) (event : Event) → (event ≡ Flush → ⊥)
    → OnOk result (BuildsProject live live' output) → OnErr result (live' ≡ live) → LeavesAsWas event (is_err result) (IsErrOf result OutOfMemory) live live'
build_leaves live live' output (Ok done) event other builds same =
    others_leave live live' (Ok done) event other (ap (λ r. r.config) builds.after.recorded) (ap (λ r. r.files) builds.after.recorded) builds.after.db builds.after.probes builds.after.ended same
build_leaves live live' output (Err error) event other builds same = others_leave live live' (Err error) event other tt tt tt tt tt same
