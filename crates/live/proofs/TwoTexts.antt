-- The session of a text that another follows: no event's refusal names a line, and no event changes the configuration.
use Rattle.std.proofs.Common.{◌≡◌, ℕ, ◌+◌, ◌≤◌, Bool, true, false, cond, List, [], ◌∷◌, ◌++◌, Option, Some, None, length, refl, sym, ap, subst, ◌∙◌, length-append, arith}
use Rattle.std.specs.List.{fold}
use Rattle.std.specs.Prelude.{Result, Ok, Err}
use Rattle.base_text_outside.specs.declared.command.Output.{Output}
use Rattle.vfs_core.specs.VfsPath.{PathContent}
use Rattle.vfs_core.specs.declared.marks.MarkKind.{MarkKind}
use Rattle.pm_tools.specs.Reading.{Reading}
use Rattle.pm_tools.specs.declared.build_error.BuildError.TheVariants as build
use Rattle.pm_lower_load.specs.declared.load_error.LoadError.{LoadError}
use Rattle.pm_lower_load.specs.declared.load_error.LoadError.TheVariants as load
use Rattle.pm_lower.specs.declared.project_workspace.ProjectWorkspace.{ProjectWorkspace}
use Rattle.pm_lower.specs.ProjectWorkspace.{has_cargo_workspace}
use Rattle.pm_lower_crates.specs.Lowering.{Crate}
use Rattle.pm_lower_crates.specs.declared.lower_error.LowerError.{LowerError}
use Rattle.pm_lower_crates.specs.declared.lower_error.LowerError.TheVariants as lower
use Rattle.live_page.specs.Event.{event}
use Rattle.live_config.specs.declared.config.LiveConfig.{LiveConfig}
use Rattle.live_page.specs.declared.event.Event.{Event}
use Rattle.live_page.specs.declared.event.Event.TheVariants.{Answer, Build, Exclude, File, Flush, Load}
use Rattle.live_project.specs.Build.{built_project}
use Rattle.live_project.specs.Project.{ProjectContent, read_sources}
use Rattle.live_project.specs.declared.project_error.ProjectError.{ProjectError}
use Rattle.live_project.specs.declared.project_error.ProjectError.TheVariants as project
use Rattle.live_project.specs.declared.sources.Sources.{Sources}
use Rattle.live_script.specs.declared.fault.LiveError.{LiveError}
use Rattle.live_script.specs.declared.fault.LiveError.TheVariants.{NoCargoProject, Script}
use Rattle.live_script.specs.Fault.{live_error_of_load}
use Rattle.live_script.specs.Laws.{IsJoined, NamesNoLine}
use Rattle.live_script.specs.Session.{Outcome, lines_within, session_by, start, take_line, take_line_after, turn_of, turns_by}
use Rattle.live_script.proofs.Joins as joins
use Rattle.live_script.proofs.Scripts.{session-fits}
use Rattle.live.specs.Laws.{SessionsJoin}
use Rattle.live.specs.Page.{Flush as FlushContent, Flushed, crates_of_flush}
use Rattle.live_project.specs.Sources.{has_room, sources_of}
use Rattle.live.specs.Session.{State, built_turn, flush_of, flushed_turn, loaded_turn, mark_turn, of_building, project_after_build, session, turn}

-- ---- an event's refusal names no line

mark-unnamed : (s : State) (path : PathContent) (kind : MarkKind) (line : ℕ) (room : Bool) → has_room s.said path ≡ room → (mark_turn s path kind).refusal ≡ Some (Script line) → ⊥
mark-unnamed s path kind line true is = rw is (λ e. cc)
mark-unnamed s path kind line false is = rw is (λ e. cc)

refusal-unnamed : (line : ℕ) (error : LoadError) → live_error_of_load error ≡ Script line → ⊥
refusal-unnamed line (load.NoSuchFile path) e = cc
refusal-unnamed line (load.CargoMetadata stderr) e = cc
refusal-unnamed line (load.Io text) e = cc
refusal-unnamed line (load.Json field) e = cc
refusal-unnamed line load.NoJson e = cc
refusal-unnamed line (load.NotAbsolute text) e = cc
refusal-unnamed line (load.NoParent text) e = cc
refusal-unnamed line (load.UnknownPackage id) e = cc
refusal-unnamed line (load.TooMany limit) e = cc
refusal-unnamed line load.OutOfMemory e = cc

load-unnamed : (s : State) (sources : Sources) (line : ℕ) (reading : Result ProjectWorkspace ProjectError) → (loaded_turn s sources reading).refusal ≡ Some (Script line) → ⊥
load-unnamed s sources line (Ok workspace) e = cc
load-unnamed s sources line (Err (project.BadManifest path)) e = cc
load-unnamed s sources line (Err (project.Refused error)) e = let is : live_error_of_load error ≡ Script line = cc in refusal-unnamed line error is
load-unnamed s sources line (Err project.OutOfMemory) e = cc

building-unnamed : (s : State) (line : ℕ) (reading : Reading ProjectContent) → (built_turn s (of_building reading)).refusal ≡ Some (Script line) → ⊥
building-unnamed s line (Ok project) e = cc
building-unnamed s line (Err (build.Io text)) e = cc
building-unnamed s line (Err (build.NotAbsolute text)) e = cc
building-unnamed s line (Err build.OutOfMemory) e = cc

build-unnamed : (s : State) (line : ℕ) (project : Option ProjectContent) (output : Output) → (built_turn s (project_after_build project output)).refusal ≡ Some (Script line) → ⊥
build-unnamed s line None output e = cc
build-unnamed s line (Some project) output e = by (has_cargo_workspace project.workspace.kind) e
  where
    by : (has : Bool) → (built_turn s (cond has (of_building (built_project project output)) (Err NoCargoProject))).refusal ≡ Some (Script line) → ⊥
    by true e = building-unnamed s line (built_project project output) e
    by false e = cc

flush-unnamed : (s : State) (flush : FlushContent) (line : ℕ) (crates : Result (List Crate) LowerError) → (flushed_turn s flush crates).refusal ≡ Some (Script line) → ⊥
flush-unnamed s flush line (Ok crates) e = cc
flush-unnamed s flush line (Err (lower.BadCrateName name)) e = cc
flush-unnamed s flush line (Err (lower.TooMany limit)) e = cc
flush-unnamed s flush line (Err lower.OutOfMemory) e = cc

turn-unnamed : NamesNoLine turn
unfolding turn
turn-unnamed s (File path text) line = mark-unnamed s path _ line (has_room s.said path) refl
turn-unnamed s (Exclude path) line = mark-unnamed s path _ line (has_room s.said path) refl
turn-unnamed s (Answer line' output) line = λ e. cc
turn-unnamed s (Load path) line = load-unnamed s (sources_of s.said path) line (read_sources (sources_of s.said path))
turn-unnamed s (Build output) line = build-unnamed s line s.project output
turn-unnamed s Flush line = flush-unnamed s (flush_of s) line (crates_of_flush (flush_of s))

-- ---- no line changes the configuration
mark_turn-config : (s : State) (path : PathContent) (kind : MarkKind) (room : Bool) → has_room s.said path ≡ room → (mark_turn s path kind).state.said.config ≡ s.said.config
mark_turn-config s path kind true e = rw e refl
mark_turn-config s path kind false e = rw e refl

load-config : (s : State) (sources : Sources) (reading : Result ProjectWorkspace ProjectError) → (loaded_turn s sources reading).state.said.config ≡ s.said.config
load-config s sources (Ok workspace) = refl
load-config s sources (Err error) = refl

build-config : (s : State) (outcome : Result ProjectContent LiveError) → (built_turn s outcome).state.said.config ≡ s.said.config
build-config s (Ok project) = refl
build-config s (Err error) = refl

flush-config : (s : State) (flush : FlushContent) (crates : Result (List Crate) LowerError) → (flushed_turn s flush crates).state.said.config ≡ s.said.config
flush-config s flush (Ok crates) = refl
flush-config s flush (Err error) = refl

turn-config : (s : State) (e : Event) → (turn s e).state.said.config ≡ s.said.config
unfolding turn
turn-config s (File path text) = mark_turn-config s path _ (has_room s.said path) refl
turn-config s (Exclude path) = mark_turn-config s path _ (has_room s.said path) refl
turn-config s (Answer line output) = refl
turn-config s (Load path) = load-config s (sources_of s.said path) (read_sources (sources_of s.said path))
turn-config s (Build output) = build-config s (project_after_build s.project output)
turn-config s Flush = flush-config s (flush_of s) (crates_of_flush (flush_of s))

turn_of-config : (s : State) (number : ℕ) (e : Option Event) → (turn_of turn s number e).state.said.config ≡ s.said.config
turn_of-config s number None = refl
turn_of-config s number (Some e) = turn-config s e

line-config : (o : Outcome State Flushed) (line : List ℕ) (r : Option LiveError) → (take_line_after turn r o line).state.said.config ≡ o.state.said.config
line-config o line None = turn_of-config o.state (o.lines + 1) (event line)
line-config o line (Some error) = refl

lines-config : (o : Outcome State Flushed) (ls : List (List ℕ)) → (fold (take_line turn) o ls).state.said.config ≡ o.state.said.config
lines-config o [] = refl
lines-config o (line ∷ ls) = lines-config (take_line turn o line) ls ∙ line-config o line o.refusal

turns-config : (s : State) (ls : List (List ℕ)) → (turns_by turn s ls).state.said.config ≡ s.said.config
unfolding turns_by
turns-config s ls = lines-config (start s) ls

pub sessions_join : SessionsJoin
sessions_join s first second h =
    let fits : length first ≤ s.said.config.limits.bytes = omega (arith, h.within, length-append first second) in
    let own = session-fits s.said.config.limits.bytes turn s first fits in
    let same : (session s first).state.said.config.limits.bytes ≡ s.said.config.limits.bytes =
    ap (λ (o : Outcome State Flushed). o.state.said.config.limits.bytes) own ∙ ap (λ (c : LiveConfig). c.limits.bytes) (turns-config s (lines_within s.said.config.limits.bytes first)) in
    subst (λ n. IsJoined (session s first) (session_by n turn (session s first).state second) (session s (first ++ second))) (sym same)
    (joins.sessions_join turn turn-unnamed s.said.config.limits.bytes s first second h)
