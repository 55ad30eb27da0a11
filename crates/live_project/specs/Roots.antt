-- The roots that place the files of a project: its own, by their directories with each `..` resolved. Which
-- directories are left out of them plays no part, as in rust-analyzer's `ProjectFolders` once files are
-- partitioned.
use Rattle.std.specs.Prelude.{ℕ, List, map}
use Rattle.base_text_paths.specs.Paths.{normal, path_text}
use Rattle.vfs_sets.specs.declared.file_root.FileRoot.{FileRoot}
use Rattle.pm_lower.specs.ToRoots.{project_roots}
use Rattle.pm_lower.specs.declared.project_workspace.ProjectWorkspace.{ProjectWorkspace}
use Rattle.pm_lower_load.specs.declared.package_root.PackageRoot.{PackageRoot}
use Rattle.vfs_core.specs.VfsPath.{PathContent, real}

-- a directory as a path that places files, with each `..` resolved
abbrev pub live_root_path : List ℕ → PathContent
live_root_path path = real (path_text (normal path))

-- a root of a project as a root of files
abbrev pub file_root : PackageRoot → FileRoot
file_root root = record { is_local = root.is_local; paths = map live_root_path root.include }

-- the same of all roots
abbrev pub file_roots : List PackageRoot → List FileRoot
file_roots roots = map file_root roots

-- the roots that place the files of a project
abbrev pub roots_of_project : ProjectWorkspace → List FileRoot
roots_of_project p = file_roots (project_roots p)
