-- What an event that is no flush does to a session, and what a refresh that fails leaves of it.
use Rattle.std.specs.Prelude.{◌≡◌, ◌⊎◌, ℕ, List, Some, Ok, Err}
use Rattle.base_text_outside.specs.Command.{question_of}
use Rattle.base_text_outside.specs.Runner.{with_answer}
use Rattle.base_text_outside.specs.declared.command.CommandLine.{CommandLine}
use Rattle.base_text_outside.specs.declared.command.Output.{Output}
use Rattle.vfs_core.specs.declared.marks.Mark.{Mark}
use Rattle.pm_lower.specs.declared.project_workspace.ProjectWorkspace.{ProjectWorkspace}
use Rattle.live_project.specs.Project.{NamesLoadLimit, ProjectContent, read_sources}
use Rattle.live_project.specs.declared.project_error.ProjectError.{ProjectError}
use Rattle.live_script.specs.declared.fault.LiveError.{LiveError}
use Rattle.live_script.specs.declared.fault.LiveError.TheVariants.{OutOfMemory}
use Rattle.live.specs.declared.session.Live.{Live}
use Rattle.live_script.specs.Fault.{of_project_error}
use Rattle.live_project.specs.LiveTexts.{RecordsMark, SparesChanges, sources_kept}
use Rattle.live.specs.Session.{project_after_build}

-- one more mark is recorded; the rest is as it was
pub record AddsMarkTo (old new : Live) (mark : Mark) : Type 0 where
  pub adds : RecordsMark old.recorded new.recorded mark
  pub rest : new ≡ record old { recorded = new.recorded }

-- an answer is recorded; the rest is as it was
abbrev pub AddsAnswer : Live → Live → CommandLine → Output → Type 0
AddsAnswer old new line output =
    new
    ≡ record old {
      recorded = record old.recorded { answers = with_answer (question_of line) output old.recorded.answers };
    }

-- a session has another project; the rest is as it was
pub record TakesProject (old new : Live) (project : ProjectContent) : Type 0 where
  pub project_is : new.project ≡ Some project
  pub recorded : new.recorded ≡ old.recorded
  pub flushed : new.flushed ≡ old.flushed
  pub db : new.db ≡ old.db
  pub probes : new.probes ≡ old.probes
  pub ended : new.ended ≡ old.ended

-- a project is loaded: what is read of what it keeps; the rest is as it was
pub record LoadsProject (old new : Live) (path : List ℕ) : Type 0 where
  pub workspace : ProjectWorkspace
  pub read : read_sources (sources_kept old.recorded path) ≡ Ok workspace
  pub after : TakesProject old new (record { sources = sources_kept old.recorded path; workspace = workspace })

-- the refusal of a load is that of what it keeps, and names no other limits than those of packages, targets
-- and crates
pub record IsLoadRefusal (live : Live) (path : List ℕ) (error : LiveError) : Type 0 where
  pub refusal : ProjectError
  pub read : read_sources (sources_kept live.recorded path) ≡ Err refusal
  pub reports : error ≡ of_project_error refusal
  pub limits : NamesLoadLimit refusal

-- a load fails out of memory, or it is refused
abbrev pub FailsLoad : Live → List ℕ → LiveError → Type 0
FailsLoad live path error = (error ≡ OutOfMemory) ⊎ IsLoadRefusal live path error

-- the project has what a build of it gave; the rest is as it was
pub record BuildsProject (old new : Live) (output : Output) : Type 0 where
  pub project : ProjectContent
  pub given : project_after_build old.project output ≡ Ok project
  pub after : TakesProject old new project

-- a build fails out of memory, or it is refused
abbrev pub FailsBuild : Live → Output → LiveError → Type 0
FailsBuild live output error = (error ≡ OutOfMemory) ⊎ (project_after_build live.project output ≡ Err error)

-- all but the database and the changes of files is as it was
pub record SparesFiles (old new : Live) : Type 0 where
  pub recorded : SparesChanges old.recorded new.recorded
  pub project : new.project ≡ old.project
  pub flushed : new.flushed ≡ old.flushed
  pub ended : new.ended ≡ old.ended
