-- Which workspaces the law of their equality speaks of: paths are equal by their components, so those whose
-- paths are clean, as the text of every path is.
use Rattle.std.specs.List.{All}
use Rattle.std.specs.Prelude.{IfSome}
use Rattle.base_text_paths.specs.Paths.{IsClean}
use Rattle.pm_cargo_packages.specs.Laws.{HasCleanManifest, HasCleanRoot}
use Rattle.pm_cargo.specs.Workspace.{Workspace}

-- every path of the workspace is clean: those of its packages and targets, and its own
pub record HasCleanWorkspace (w : Workspace) : Type 0 where
  pub packages : All HasCleanManifest w.packages
  pub targets : All HasCleanRoot w.targets
  pub workspace_root : IsClean w.workspace_root
  pub target_directory : IsClean w.target_directory
  pub build_directory : IfSome w.build_directory IsClean
  pub manifest_path : IsClean w.manifest_path
