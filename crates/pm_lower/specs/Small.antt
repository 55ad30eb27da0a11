-- How large a project that a load gives is.
use Rattle.std.specs.Prelude.{◌+◌, ◌≤◌, length}
use Rattle.base_text_outside.specs.declared.limits.Limits.{Limits}
use Rattle.pm_lower.specs.ToRoots.{HasNoRustc, project_roots}
use Rattle.pm_lower.specs.declared.project_workspace.ProjectWorkspace.{ProjectWorkspace}

-- no crates of the compiler were read beside a project, and it has few roots: one for each package or crate,
-- one more of a detached file, and one of the toolchain
pub record IsSmall (limits : Limits) (p : ProjectWorkspace) : Type 0 where
  pub no_rustc : HasNoRustc p
  pub few : length (project_roots p) ≤ limits.packages + limits.crates + 2
