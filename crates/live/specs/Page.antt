-- The page of a flush, by the files that live and the project, if one was loaded: no database is in it. The
-- entries are those of the crates that the project has by these files; the sets are those of the project's
-- roots in order, and behind them the last set.
use Rattle.std.specs.Prelude.{ℕ, List, [], map, nat_eq, Option, Some, None, Result, Ok}
use Rattle.std.specs.Map.{lookup}
use Rattle.std.specs.Option.{option_map}
use Rattle.live_page.specs.FlushPage as placed
use Rattle.vfs_sets.specs.declared.file_root.FileRoot.{FileRoot}
use Rattle.live_project.specs.Crates.{project_lowered}
use Rattle.live_project.specs.LiveTexts.{LiveFile}
use Rattle.live_project.specs.Project.{ProjectContent}
use Rattle.live_project.specs.Roots.{roots_of_project}
use Rattle.live_page.specs.Entries.{Node, Paths, entries_of}
use Rattle.live_page.specs.declared.crate_entry.CrateEntry.{CrateEntry}
use Rattle.pm_lower_crates.specs.Lowering.{Crate}
use Rattle.pm_lower_crates.specs.declared.lower_error.LowerError.{LowerError}
use Rattle.vfs_core.specs.VfsPath.{PathContent}

-- what a flush brings into the database: the files that live, by number, and the project, if one was loaded
pub record Flush : Type 0 where
  pub files : List LiveFile
  pub project : Option ProjectContent

-- a flush that was done: what it brought into the database, and the crates that are shown of it
pub record Flushed : Type 0 where
  pub flush : Flush
  pub crates : List Crate

-- ---- files

-- the paths of a flush's files
abbrev pub paths_of_flush : Flush → List PathContent
paths_of_flush flush = map (λ file. file.path) flush.files

-- the paths by the numbers of the files
abbrev pub numbers_of_flush : Flush → List (ℕ × PathContent)
numbers_of_flush flush = map (λ file. (file.number, file.path)) flush.files

-- the path of a file by its number
abbrev pub path_by : List (ℕ × PathContent) → Paths
path_by files number = option_map (λ path. path.text) (lookup (nat_eq number) files)

-- ---- the project

-- the roots that place files: none without a project
abbrev pub roots_by : Option ProjectContent → List FileRoot
roots_by None = []
roots_by (Some p) = roots_of_project p.workspace

-- the crates by the files that live, or why there are none; no project has none
abbrev pub crates_by : Option ProjectContent → List (ℕ × PathContent) → Result (List Crate) LowerError
crates_by None files = Ok []
crates_by (Some p) files = (project_lowered p files).crates

-- the crates of a flush, or why it is refused
abbrev pub crates_of_flush : Flush → Result (List Crate) LowerError
crates_of_flush flush = crates_by flush.project (numbers_of_flush flush)

-- ---- the page

-- a crate as its entry sees it
abbrev pub node_seen : Crate → Node
node_seen krate = record {
  root_file = krate.root;
  dependencies = map (λ dep. (dep.name, dep.target)) krate.deps;
}

-- the entries of crates
abbrev pub entries : Flush → List Crate → List CrateEntry
entries flush crates = entries_of (path_by (numbers_of_flush flush)) (map node_seen crates)

-- the page of a flush that was done
unfoldable pub page : Flushed → List ℕ
page done =
    placed.page_of_entries (roots_by done.flush.project) (paths_of_flush done.flush)
    (entries done.flush done.crates)
