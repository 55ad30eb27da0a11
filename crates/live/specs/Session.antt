-- The session: what an event does to a state, which flushes it does, and what it refuses. A script is taken
-- line by line, as `session_by` has it.
use Rattle.std.specs.Prelude.{ℕ, Bool, true, List, [], ◌∷◌, Option, Some, None, Result, Ok, Err, if◌then◌else◌}
use Rattle.base_text_outside.specs.Command.{question_of}
use Rattle.base_text_outside.specs.Runner.{with_answer}
use Rattle.base_text_outside.specs.declared.command.Output.{Output}
use Rattle.base_text_outside.specs.declared.limits.Limit.TheVariants.{Paths}
use Rattle.vfs_core.specs.VfsPath.{PathContent}
use Rattle.vfs_core.specs.declared.marks.MarkKind.{MarkKind}
use Rattle.vfs_core.specs.declared.marks.MarkKind.TheVariants.{Out}
use Rattle.vfs_core.specs.Files.{kind_of}
use Rattle.pm_tools.specs.Reading.{Reading}
use Rattle.pm_lower.specs.ProjectWorkspace.{has_cargo_workspace}
use Rattle.pm_lower.specs.declared.project_workspace.ProjectWorkspace.{ProjectWorkspace}
use Rattle.pm_lower_crates.specs.Lowering.{Crate}
use Rattle.pm_lower_crates.specs.declared.lower_error.LowerError.{LowerError}
use Rattle.live_config.specs.declared.config.LiveConfig.{LiveConfig}
use Rattle.live_page.specs.declared.event.Event.{Event}
use Rattle.live_page.specs.declared.event.Event.TheVariants.{Answer, Build, Exclude, File, Flush as FlushEvent, Load}
use Rattle.live_project.specs.Build.{built_project}
use Rattle.live_project.specs.LiveTexts.{numbered_files}
use Rattle.live_project.specs.Project.{ProjectContent, read_sources}
use Rattle.live_project.specs.Sources.{Said, has_room, sources_of}
use Rattle.live_project.specs.declared.project_error.ProjectError.{ProjectError}
use Rattle.live_project.specs.declared.sources.Sources.{Sources}
use Rattle.live_script.specs.declared.fault.LiveError.{LiveError}
use Rattle.live_script.specs.declared.fault.LiveError.TheVariants.{NoCargoProject, TooMany}
use Rattle.live_script.specs.Fault.{of_build_error, of_lower_error, of_project_error}
use Rattle.live_script.specs.Session.{Outcome, Turn, refuses, session_by, takes}
use Rattle.live.specs.Page.{Flush, Flushed, crates_of_flush}

-- what a session knows: what was said to it, the project that was loaded last with what its last build gave,
-- if one was loaded, the last flush that was done, if there was one, and whether it has ended
pub record State : Type 0 where
  pub said : Said
  pub project : Option ProjectContent
  pub flushed : Option Flushed
  pub ended : Bool

-- the state with another configuration
abbrev pub with_config : State → LiveConfig → State
with_config s config = record s { said = record s.said { config = config } }

-- the state after it has ended
abbrev pub ended_state : State → State
ended_state s = record s { ended = true }

-- ---- files

-- what is said of a path that has room
abbrev pub mark_turn : State → PathContent → MarkKind → Turn State Flushed
mark_turn s path kind =
    if has_room s.said path then
    takes
    (record s { said = record s.said { marks = record { path = path; kind = kind } ∷ s.said.marks } })
    []
    else refuses s (TooMany Paths)

-- ---- answers and projects

-- a load of what was read, or of its refusal, which leaves the state as it was
abbrev pub loaded_turn : State → Sources → Result ProjectWorkspace ProjectError → Turn State Flushed
loaded_turn s sources (Ok workspace) =
    takes (record s { project = Some (record { sources = sources; workspace = workspace }) }) []
loaded_turn s sources (Err error) = refuses s (of_project_error error)

-- a load is judged by what it keeps alone
abbrev pub load_turn : State → List ℕ → Turn State Flushed
load_turn s path = loaded_turn s (sources_of s.said path) (read_sources (sources_of s.said path))

-- ---- builds

-- the project after a build of it, or why the build is refused
abbrev pub of_building : Reading ProjectContent → Result ProjectContent LiveError
of_building (Ok project) = Ok project
of_building (Err error) = Err (of_build_error error)

-- a build is one of the project that is loaded, which must have a Cargo workspace, and the outputs after it
-- are its own alone
abbrev pub project_after_build : Option ProjectContent → Output → Result ProjectContent LiveError
project_after_build None output = Err NoCargoProject
project_after_build (Some project) output =
    if has_cargo_workspace project.workspace.kind then of_building (built_project project output)
    else Err NoCargoProject

-- a build that gives this project, or its refusal, which leaves the state as it was
abbrev pub built_turn : State → Result ProjectContent LiveError → Turn State Flushed
built_turn s (Ok project) = takes (record s { project = Some project }) []
built_turn s (Err error) = refuses s error

-- a build
abbrev pub build_turn : State → Output → Turn State Flushed
build_turn s output = built_turn s (project_after_build s.project output)

-- ---- flushes

-- what a flush brings into the database: the files that live, and the project
abbrev pub flush_of : State → Flush
flush_of s = record { files = numbered_files s.said.marks; project = s.project }

-- a flush with crates is done, and is the last flush from then on; one that has none is refused, and ends the
-- session
abbrev pub flushed_turn : State → Flush → Result (List Crate) LowerError → Turn State Flushed
flushed_turn s flush (Ok crates) =
    let done : Flushed = record { flush = flush; crates = crates } in
    takes (record s { flushed = Some done }) (done ∷ [])
flushed_turn s flush (Err error) = refuses (ended_state s) (of_lower_error error)

-- a flush
abbrev pub flush_turn : State → Turn State Flushed
flush_turn s = flushed_turn s (flush_of s) (crates_of_flush (flush_of s))

-- ---- events

-- one event; an answer is recorded in place of an earlier one of the same question
unfoldable pub turn : State → Event → Turn State Flushed
turn s (File path text) = mark_turn s path (kind_of text)
turn s (Exclude path) = mark_turn s path Out
turn s (Answer line output) =
    takes
    (record s { said = record s.said { answers = with_answer (question_of line) output s.said.answers } })
    []
turn s (Load path) = load_turn s path
turn s (Build output) = build_turn s output
turn s FlushEvent = flush_turn s

-- the state after an event that failed with nothing else said: a flush ends the session
abbrev pub state_after_failure : State → Event → State
state_after_failure s (File path text) = s
state_after_failure s (Exclude path) = s
state_after_failure s (Answer line output) = s
state_after_failure s (Load path) = s
state_after_failure s (Build output) = s
state_after_failure s FlushEvent = ended_state s

-- ---- scripts

-- the session of a state and the bytes of a script, within the limit of its configuration
abbrev pub session : State → List ℕ → Outcome State Flushed
session s bytes = session_by s.said.config.limits.bytes turn s bytes
