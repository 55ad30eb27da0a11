-- What a project is lowered to by the files that live, which each have a number: rows, edges and columns are
-- those of `lowered`. Which targets have a crate goes by these files alone, and the limit is that of the
-- configuration that the load kept.
use Rattle.std.specs.Prelude.{◌≡◌, ℕ, List, [], fold, nat_eq, Some, if◌then◌else◌}
use Rattle.std.specs.List.{All}
use Rattle.std.specs.Map.{lookup}
use Rattle.crate_graph_values.specs.declared.builder.CrateBuilder.{CrateBuilder}
use Rattle.pm_lower_crates.specs.Loader.{FileNumbers, with_numbered_file}
use Rattle.pm_lower.specs.ToCrateGraph.{Lowered, project_lowering}
use Rattle.vfs_core.specs.VfsPath.{PathContent}
use Rattle.live_project.specs.Project.{ProjectContent}
use Rattle.live_project.specs.Sources.{means_of_sources}

-- the files of a loader, with one more under its number; a virtual path is in no loader
abbrev pub with_live_file : FileNumbers → ℕ × PathContent → FileNumbers
with_live_file files file = if file.1.is_virtual then files else with_numbered_file files file.1.text file.0

-- the loader of these files
unfoldable pub files_by_path : List (ℕ × PathContent) → FileNumbers
files_by_path files = fold with_live_file [] files

-- what the project is lowered to by the files of a loader: the limit and what is asked are those that its
-- load kept
abbrev pub lowered_by : ProjectContent → FileNumbers → Lowered
lowered_by p files = project_lowering files p.sources.config.limits.crates (means_of_sources p.sources) p.workspace

-- and by these files
abbrev pub project_lowered : ProjectContent → List (ℕ × PathContent) → Lowered
project_lowered p files = lowered_by p (files_by_path files)

-- each crate of a graph begins in one of these files
abbrev pub BeginIn : List (ℕ × PathContent) → List CrateBuilder → Type 0
BeginIn files crates =
    All (λ krate. (path : PathContent) × (lookup (nat_eq krate.basic.root_file_id) files ≡ Some path)) crates
