-- One event that is no mark and no flush: an answer that is recorded, or a load.
use Rattle.std.proofs.Common.{◌≡◌, ℕ, List, [], Option, Some, Result, Ok, Err, inl, inr, refl, sym, ap, subst, ◌∙◌, arith}
use Rattle.std.specs.Prelude.{IfErr, IsErrOf, OnErr, OnOk, is_err}
use Rattle.base_text_outside.specs.Command.{question_of}
use Rattle.base_text_outside.specs.Runner.{with_answer}
use Rattle.base_text_outside.specs.Sink.{Appends-nil}
use Rattle.base_text_outside.specs.declared.command.CommandLine.{CommandLine}
use Rattle.base_text_outside.specs.declared.command.Output.{Output}
use Rattle.base_text_outside.specs.declared.limits.Limit.TheVariants.{Bytes, Paths, Packages, Targets, Crates}
use Rattle.pm_lower_load.specs.declared.load_error.LoadError.{LoadError}
use Rattle.pm_lower_load.specs.declared.load_error.LoadError.TheVariants as load
use Rattle.pm_lower.specs.declared.project_workspace.ProjectWorkspace.{ProjectWorkspace}
use Rattle.live_project.specs.Project.{NamesLoadLimit, ProjectContent, Refuses, read_sources}
use Rattle.live_project.specs.declared.project_error.ProjectError.{ProjectError}
use Rattle.live_project.specs.declared.project_error.ProjectError.TheVariants as project
use Rattle.live_project.specs.declared.sources.Sources.{Sources}
use Rattle.live_page.specs.declared.event.Event.{Event}
use Rattle.live_page.specs.declared.event.Event.TheVariants.{Answer, Flush, Load}
use Rattle.live_script.specs.declared.fault.LiveError.{LiveError}
use Rattle.live_script.specs.declared.fault.LiveError.TheVariants.{OutOfMemory, TooMany, WriteFault}
use Rattle.live.specs.declared.session.Live.{Live}
use Rattle.live_script.specs.Fault.{IsOneOf, IsRefusal, live_error_of_load, of_project_error, status_of, turn_statuses}
use Rattle.live.specs.Marked.{AddsAnswer, FailsLoad, IsLoadRefusal, LoadsProject, TakesProject}
use Rattle.live.specs.Session.{State, load_turn, loaded_turn, state_after_failure, turn}
use Rattle.live.specs.Turn.{EndsLiveTurn, Holds, LeavesAsWas, TakesLiveTurn}
use Rattle.live_script.specs.Written.{HasWriteCause}
use Rattle.live_project.specs.LiveTexts.{HoldsSaid, sources_kept}
use Rattle.live_project.specs.Sources.{sources_of}
use Rattle.live_project.proofs.SaidLemmas.{holds_answer, same_sources}
use Rattle.live_script.proofs.Texts.{AppendsFront-nil}
use Rattle.live.proofs.Names.{names_by, names_equal, numbers_same}
use Rattle.live.proofs.Turns.{crates_same}

-- ---- states that are held

module _ (live live' : Live) (s : State) (h : Holds live s) where
  -- one more answer is held
  pub Holds-answer : (line : CommandLine) (output : Output) → AddsAnswer live live' line output
      → Holds live' (record s { said = record s.said { answers = with_answer (question_of line) output s.said.answers } })
  Holds-answer line output after = record {
    said = holds_answer live.recorded live'.recorded s.said h.said line output (ap (λ l. l.recorded) after);
    project = ap (λ l. l.project) after ∙ h.project;
    flushed = rw after h.flushed;
    ended = ap (λ l. l.ended) after ∙ h.ended;
    database = λ going. let current = h.database going in rw after (record {
      brings = current.brings;
      valid = current.valid;
      shown = current.shown;
      crates = current.crates;
    });
  }

  -- a project that was loaded or built is held; the database lists crates as before, which is no matter once there is a project
  pub Holds-project : (project : ProjectContent) → TakesProject live live' project → Holds live' (record s { project = Some project })
  Holds-project project after = record {
    said = subst (λ r. HoldsSaid r s.said) (sym after.recorded) h.said;
    project = after.project_is;
    flushed = rw (after.recorded, after.flushed) h.flushed;
    ended = after.ended ∙ h.ended;
    database = λ going. let current = h.database going in record {
      brings = rw (after.recorded, after.db) current.brings;
      valid = rw after.recorded current.valid;
      shown = rw after.db current.shown;
      crates = λ none. absurd (let some = sym after.project_is ∙ none in cc);
    };
  }

-- ---- turns

-- what was read is the turn of the load
load-read : (s : State) (path : List ℕ) (workspace : ProjectWorkspace) → read_sources (sources_of s.said path) ≡ Ok workspace
    → load_turn s path ≡ loaded_turn s (sources_of s.said path) (Ok workspace)
load-read s path workspace read = ap (loaded_turn s (sources_of s.said path)) read

load-refused : (s : State) (path : List ℕ) (refusal : ProjectError) → read_sources (sources_of s.said path) ≡ Err refusal
    → load_turn s path ≡ loaded_turn s (sources_of s.said path) (Err refusal)
load-refused s path refusal read = ap (loaded_turn s (sources_of s.said path)) read

-- an answer that is recorded
pub takes_answer : (live live' : Live) (line : CommandLine) (output : Output) (result : Result (Unit {0}) LiveError) (held : Option (List ℕ)) (event : Event) → event ≡ Answer line output
    → OnOk result (AddsAnswer live live' line output) → OnOk result ((s : State) → Holds live s → TakesLiveTurn (turn s event) live' (held, held))
unfolding turn
takes_answer live live' line output (Ok done) held event is adds = λ s h.
    subst (λ e. TakesLiveTurn (turn s e) live' (held, held)) (sym is)
    (record { accepted = refl; holds = Holds-answer live live' s h line output adds; appended = Appends-nil held })
takes_answer live live' line output (Err error) held event is adds = tt

-- out of memory nothing is said of the turn
pub memory_ends : (live live' : Live) (s left : State) (error : LiveError) (held : Option (List ℕ)) (event : Event) → error ≡ OutOfMemory → Holds live' left
    → EndsLiveTurn (turn s event) left error live' (held, held)
memory_ends live live' s left error held event memory holds = record {
  written = AppendsFront-nil held _;
  cut = λ e. absurd (cc);
  refused = λ refusal. absurd (let r : IsRefusal OutOfMemory = subst IsRefusal memory refusal in omega (arith, r));
  state = left;
  left = refl;
  holds = holds;
}

pub fails_answer : (live live' : Live) (line : CommandLine) (output : Output) (result : Result (Unit {0}) LiveError) (held : Option (List ℕ)) (event : Event) → event ≡ Answer line output
    → IfErr result (λ e. e ≡ OutOfMemory) → OnErr result (live' ≡ live)
    → IfErr result (λ e. (s : State) → Holds live s → EndsLiveTurn (turn s event) (state_after_failure s event) e live' (held, held))
fails_answer live live' line output (Ok done) held event is only same = tt
fails_answer live live' line output (Err error) held event is only same = λ s h.
    memory_ends live live' s (state_after_failure s event) error held event only
    (subst (λ e. Holds live' (state_after_failure s e)) (sym is) (subst (λ l. Holds l s) (sym same) h))

-- a project that is loaded
pub takes_load : (live live' : Live) (path : List ℕ) (result : Result (Unit {0}) LiveError) (held : Option (List ℕ)) (event : Event) → event ≡ Load path
    → OnOk result (LoadsProject live live' path) → OnOk result ((s : State) → Holds live s → TakesLiveTurn (turn s event) live' (held, held))
unfolding turn
takes_load live live' path (Ok done) held event is loads = λ s h.
    let same = same_sources live.recorded s.said h.said path in
    let read : read_sources (sources_of s.said path) ≡ Ok loads.workspace = ap read_sources (sym same) ∙ loads.read in
    let after : TakesProject live live' (record { sources = sources_of s.said path; workspace = loads.workspace }) =
    subst (λ sources. TakesProject live live' (record { sources = sources; workspace = loads.workspace })) same loads.after in
    subst (λ e. TakesLiveTurn (turn s e) live' (held, held)) (sym is)
    (subst (λ t. TakesLiveTurn t live' (held, held)) (sym (load-read s path loads.workspace read))
    (record { accepted = refl; holds = Holds-project live live' s h (record { sources = sources_of s.said path; workspace = loads.workspace }) after; appended = Appends-nil held }))
takes_load live live' path (Err error) held event is loads = tt

-- one that is refused
refused_ends : (live live' : Live) (path : List ℕ) (s : State) (error : LiveError) (held : Option (List ℕ)) → Holds live s → live' ≡ live → IsLoadRefusal live path error
    → EndsLiveTurn (load_turn s path) s error live' (held, held)
refused_ends live live' path s error held h same r =
    let read : read_sources (sources_of s.said path) ≡ Err r.refusal = ap read_sources (sym (same_sources live.recorded s.said h.said path)) ∙ r.read in
    let holds : Holds live' s = subst (λ l. Holds l s) (sym same) h in
    subst (λ t. EndsLiveTurn t s error live' (held, held)) (sym (load-refused s path r.refusal read)) (record {
      written = AppendsFront-nil held [];
      cut = λ e. absurd (no-fault r.refusal (sym r.reports ∙ e));
      refused = λ refusal. record { refused = ap Some (sym r.reports); holds = holds; appended = Appends-nil held };
      state = s;
      left = refl;
      holds = holds;
    })
  where
    no-load_fault : (error : LoadError) → live_error_of_load error ≡ WriteFault → ⊥
    no-load_fault (load.NoSuchFile path) e = cc
    no-load_fault (load.CargoMetadata stderr) e = cc
    no-load_fault (load.Io line) e = cc
    no-load_fault (load.Json field) e = cc
    no-load_fault load.NoJson e = cc
    no-load_fault (load.NotAbsolute text) e = cc
    no-load_fault (load.NoParent text) e = cc
    no-load_fault (load.UnknownPackage id) e = cc
    no-load_fault (load.TooMany limit) e = cc
    no-load_fault load.OutOfMemory e = cc

    no-fault : (refusal : ProjectError) → of_project_error refusal ≡ WriteFault → ⊥
    no-fault (project.BadManifest path) e = cc
    no-fault (project.Refused error) e = no-load_fault error e
    no-fault project.OutOfMemory e = cc

pub fails_load : (live live' : Live) (path : List ℕ) (result : Result (Unit {0}) LiveError) (held : Option (List ℕ)) (event : Event) → event ≡ Load path
    → IfErr result (FailsLoad live path) → OnErr result (live' ≡ live)
    → IfErr result (λ e. (s : State) → Holds live s → EndsLiveTurn (turn s event) (state_after_failure s event) e live' (held, held))
unfolding turn
fails_load live live' path (Ok done) held event is fails same = tt
fails_load live live' path (Err error) held event is (inl memory) same = λ s h.
    memory_ends live live' s (state_after_failure s event) error held event memory
    (subst (λ e. Holds live' (state_after_failure s e)) (sym is) (subst (λ l. Holds l s) (sym same) h))
fails_load live live' path (Err error) held event is (inr refused) same = λ s h.
    subst (λ e. EndsLiveTurn (turn s e) (state_after_failure s e) error live' (held, held)) (sym is) (refused_ends live live' path s error held h same refused)

-- ---- causes

refusal-status : (error : LoadError) → IsOneOf turn_statuses (status_of (live_error_of_load error))
refusal-status (load.NoSuchFile path) = refl
refusal-status (load.CargoMetadata stderr) = refl
refusal-status (load.Io line) = refl
refusal-status (load.Json field) = refl
refusal-status load.NoJson = refl
refusal-status (load.NotAbsolute text) = refl
refusal-status (load.NoParent text) = refl
refusal-status (load.UnknownPackage id) = refl
refusal-status (load.TooMany limit) = refl
refusal-status load.OutOfMemory = refl

project-status : (refusal : ProjectError) → IsOneOf turn_statuses (status_of (of_project_error refusal))
project-status (project.BadManifest path) = refl
project-status (project.Refused error) = refusal-status error
project-status project.OutOfMemory = refl

-- the limit of bytes is none of a load's
load-limit : (error : LoadError) → NamesLoadLimit (project.Refused error) → live_error_of_load error ≡ TooMany Bytes → ⊥
load-limit (load.NoSuchFile path) names e = cc
load-limit (load.CargoMetadata stderr) names e = cc
load-limit (load.Io line) names e = cc
load-limit (load.Json field) names e = cc
load-limit load.NoJson names e = cc
load-limit (load.NotAbsolute text) names e = cc
load-limit (load.NoParent text) names e = cc
load-limit (load.UnknownPackage id) names e = cc
load-limit (load.TooMany Bytes) names e = names
load-limit (load.TooMany Paths) names e = cc
load-limit (load.TooMany Packages) names e = cc
load-limit (load.TooMany Targets) names e = cc
load-limit (load.TooMany Crates) names e = cc
load-limit load.OutOfMemory names e = cc

project-limit : (refusal : ProjectError) → NamesLoadLimit refusal → of_project_error refusal ≡ TooMany Bytes → ⊥
project-limit (project.BadManifest path) names e = cc
project-limit (project.Refused error) names e = load-limit error names e
project-limit project.OutOfMemory names e = cc

no-write : (refusal : ProjectError) → IsOneOf turn_statuses (status_of (of_project_error refusal)) → of_project_error refusal ≡ WriteFault → ⊥
no-write (project.BadManifest path) only e = cc
no-write (project.Refused (load.NoSuchFile path)) only e = cc
no-write (project.Refused (load.CargoMetadata stderr)) only e = cc
no-write (project.Refused (load.Io line)) only e = cc
no-write (project.Refused (load.Json field)) only e = cc
no-write (project.Refused load.NoJson) only e = cc
no-write (project.Refused (load.NotAbsolute text)) only e = cc
no-write (project.Refused (load.NoParent text)) only e = cc
no-write (project.Refused (load.UnknownPackage id)) only e = cc
no-write (project.Refused (load.TooMany limit)) only e = cc
no-write (project.Refused load.OutOfMemory) only e = cc
no-write project.OutOfMemory only e = cc

pub memory_cause : (result : Result (Unit {0}) LiveError) (count : ℕ) → IfErr result (λ e. e ≡ OutOfMemory) → HasWriteCause result turn_statuses (count, count)
memory_cause (Ok done) count only = record { later = omega arith; only = tt; write = λ e. absurd (cc); limits = λ e. cc }
memory_cause (Err error) count only = record {
  later = omega arith;
  only = subst (λ e. IsOneOf turn_statuses (status_of e)) (sym only) refl;
  write = λ e. absurd (cc);
  limits = λ e. cc;
}

pub load_cause : (live : Live) (path : List ℕ) (result : Result (Unit {0}) LiveError) (count : ℕ) → IfErr result (FailsLoad live path) → HasWriteCause result turn_statuses (count, count)
load_cause live path (Ok done) count fails = memory_cause (Ok done) count tt
load_cause live path (Err error) count (inl memory) = memory_cause (Err error) count memory
load_cause live path (Err error) count (inr refused) = record {
  later = omega arith;
  only = subst (λ e. IsOneOf turn_statuses (status_of e)) (sym refused.reports) (project-status refused.refusal);
  write = λ e. absurd (let is : error ≡ WriteFault = cc in no-write refused.refusal (project-status refused.refusal) (sym refused.reports ∙ is));
  limits = λ e. let is : error ≡ TooMany Bytes = cc in project-limit refused.refusal refused.limits (sym refused.reports ∙ is);
}

-- ---- what stays

-- what leaves all but the answers and the project as it was
pub others_leave : (live live' : Live) (result : Result (Unit {0}) LiveError) (event : Event) → (event ≡ Flush → ⊥)
    → OnOk result (live'.recorded.config ≡ live.recorded.config) → OnOk result (live'.recorded.files ≡ live.recorded.files) → OnOk result (live'.db ≡ live.db) → OnOk result (live'.probes ≡ live.probes) → OnOk result (live'.ended ≡ live.ended)
    → OnErr result (live' ≡ live) → LeavesAsWas event (is_err result) (IsErrOf result OutOfMemory) live live'
others_leave live live' (Ok done) event other config files db probes ended same = record {
  names = names_by live live' (numbers_same live.recorded.files live'.recorded.files (ap (λ f. f.entries) files)) (ap (λ d. d.crates) db);
  config = config;
  database = λ _. db;
  all = λ e. absurd (cc);
  crates = λ _ none. crates_same live.db live'.db db;
  probes = λ _. probes;
  counts = λ e. absurd (other e);
  going = λ _. ended;
  ends = λ e. absurd (cc);
}
others_leave live live' (Err error) event other config files db probes ended same = record {
  names = names_equal live live' same;
  config = ap (λ l. l.recorded.config) same;
  database = λ _. ap (λ l. l.db) same;
  all = λ _ _. same;
  crates = λ e none. absurd (cc);
  probes = λ _. ap (λ l. l.probes) same;
  counts = λ e. absurd (other e);
  going = λ e. absurd (cc);
  ends = λ _ e. absurd (other e);
}

pub answer_leaves : (live live' : Live) (line : CommandLine) (output : Output) (result : Result (Unit {0}) LiveError) (event : Event) → (event ≡ Flush → ⊥)
    → OnOk result (AddsAnswer live live' line output) → OnErr result (live' ≡ live) → LeavesAsWas event (is_err result) (IsErrOf result OutOfMemory) live live'
answer_leaves live live' line output (Ok done) event other after same =
    others_leave live live' (Ok done) event other (ap (λ l. l.recorded.config) after) (ap (λ l. l.recorded.files) after) (ap (λ l. l.db) after) (ap (λ l. l.probes) after) (ap (λ l. l.ended) after) same
answer_leaves live live' line output (Err error) event other after same = others_leave live live' (Err error) event other tt tt tt tt tt same

pub load_leaves : (live live' : Live) (path : List ℕ) (result : Result (Unit {0}) LiveError) (event : Event) → (event ≡ Flush → ⊥)
    → OnOk result (LoadsProject live live' path) → OnErr result (live' ≡ live) → LeavesAsWas event (is_err result) (IsErrOf result OutOfMemory) live live'
load_leaves live live' path (Ok done) event other loads same =
    others_leave live live' (Ok done) event other (ap (λ r. r.config) loads.after.recorded) (ap (λ r. r.files) loads.after.recorded) loads.after.db loads.after.probes loads.after.ended same
load_leaves live live' path (Err error) event other loads same = others_leave live live' (Err error) event other tt tt tt tt tt same

-- what a call of a load gives, of a session
pub refuses_load : (live : Live) (path : List ℕ) (refusal : ProjectError) (sources : Sources) → sources ≡ sources_kept live.recorded path
    → Refuses refusal (read_sources sources) → NamesLoadLimit refusal → FailsLoad live path (of_project_error refusal)
refuses_load live path (project.BadManifest text) sources same h names =
    inr (record { refusal = project.BadManifest text; read = ap read_sources (sym same) ∙ h; reports = refl; limits = names })
refuses_load live path (project.Refused error) sources same h names =
    inr (record { refusal = project.Refused error; read = ap read_sources (sym same) ∙ h; reports = refl; limits = names })
refuses_load live path project.OutOfMemory sources same h names = inl refl

pub loads_live : (live live' : Live) (path : List ℕ) (sources : Sources) (content : ProjectContent) → sources ≡ sources_kept live.recorded path
    → content.sources ≡ sources → read_sources sources ≡ Ok content.workspace → TakesProject live live' content → LoadsProject live live' path
loads_live live live' path sources content same kept read after = record {
  workspace = content.workspace;
  read = ap read_sources (sym same) ∙ read;
  after = subst (λ of. TakesProject live live' (record { sources = of; workspace = content.workspace })) (kept ∙ same) after;
}
