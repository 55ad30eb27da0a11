-- What a flush does to a session before its page is written: the files are placed by the roots of the
-- project, and the crates that the project has by them are set. Without a project no root places them, and no
-- crate is given.
use Rattle.std.specs.Prelude.{◌≡◌, ◌⊎◌, ℕ, List, [], Option, Some, None, Result, Ok, Err, map}
use Rattle.std.specs.declared.cmp.Ordering.{Ordering}
use Rattle.vfs_core.specs.Files.{existing_files}
use Rattle.vfs_core.specs.VfsPath.{PathContent}
use Rattle.crate_graph.specs.Graph.{Graph}
use Rattle.crate_graph.specs.Extend.{Id}
use Rattle.pm_lower_crates.specs.Lowering.{LacksCyclesAlone, crate_seen}
use Rattle.pm_lower_crates.specs.Refusal.{Refuses}
use Rattle.pm_lower_crates.specs.declared.lower_error.LowerError.{LowerError}
use Rattle.live_page.specs.Refresh.{GivesCrates, KeepsIdentities, Refreshes}
use Rattle.live_project.specs.Crates.{BeginIn, project_lowered}
use Rattle.live_project.specs.LiveTexts.{SparesChanges}
use Rattle.live_project.specs.Project.{ProjectContent}
use Rattle.live_script.specs.declared.fault.LiveError.{LiveError}
use Rattle.live_script.specs.declared.fault.LiveError.TheVariants.{OutOfMemory}
use Rattle.live.specs.declared.last_flush.LastFlush.{LastFlush}
use Rattle.live.specs.declared.session.Live.{Live}
use Rattle.live_script.specs.Fault.{of_lower_error}
use Rattle.live.specs.Page.{crates_by, roots_by}

-- ---- the graph

-- a graph has the crates of a project by these files, each begins in one of them, and a wanted edge is a
-- dependency exactly where its target does not reach its source
pub record IsProjectGraph (p : ProjectContent) (files : List (ℕ × PathContent)) (graph : Graph) : Type 0 where
  pub crates : (project_lowered p files).crates ≡ Ok (map crate_seen graph.crates)
  pub begins : BeginIn files graph.crates
  pub missing : LacksCyclesAlone (project_lowered p files).wants graph.crates

-- the graph of a project, and none where there is no project
abbrev pub IsGraphBy : Option ProjectContent → List (ℕ × PathContent) → Option Graph → Type 0
IsGraphBy None files graph = graph ≡ None
IsGraphBy (Some p) files None = ⊥
IsGraphBy (Some p) files (Some graph) = IsProjectGraph p files graph

-- a call gives that graph, or the refusal of the project's crates
abbrev pub GivesGraph : Option ProjectContent → List (ℕ × PathContent) → Result (Option Graph) LowerError
    → Type 0
GivesGraph p files (Ok graph) = IsGraphBy p files graph
GivesGraph p files (Err error) = Refuses error (crates_by p files)

-- ---- a session

-- the files that exist, those changes whose file has a root, and the crates are in the database, where crates
-- that were there keep their identities; the changes are taken. All else but the count of probes is as it was
pub record RefreshesLive (old new : Live) : Type 0 where
  pub graph : Option Graph
  pub lowers : IsGraphBy old.project (existing_files old.recorded.files) graph
  pub cmp : Id → Id → Ordering
  pub crates : GivesCrates cmp graph old.db new.db
  pub refreshes : Refreshes (roots_by old.project) old.recorded.files old.db new.db
  pub stable : KeepsIdentities old.db.crates new.db.crates
  pub recorded : SparesChanges old.recorded new.recorded
  pub taken : new.recorded.files.batch ≡ []
  pub project : new.project ≡ old.project
  pub flushed : new.flushed ≡ old.flushed
  pub ended : new.ended ≡ old.ended

-- what is kept of a flush: the texts and the project
pub record KeepsLast (live : Live) (last : LastFlush) : Type 0 where
  pub texts : last.texts ≡ live.recorded.texts
  pub project : last.project ≡ live.project

-- a flush is refused with the refusal of the project's crates
pub record IsFlushRefusal (live : Live) (error : LiveError) : Type 0 where
  pub refusal : LowerError
  pub lowers : crates_by live.project (existing_files live.recorded.files) ≡ Err refusal
  pub reports : error ≡ of_lower_error refusal

-- a flush fails out of memory, or it is refused
abbrev pub FailsFlush : Live → LiveError → Type 0
FailsFlush live error = (error ≡ OutOfMemory) ⊎ IsFlushRefusal live error
