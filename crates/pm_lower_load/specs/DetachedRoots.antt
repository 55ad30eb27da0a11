-- The roots of a detached file: first the file itself, which is edited, and behind it those of its Cargo
-- project. The rule is that of rust-analyzer's `ProjectWorkspace::to_roots`.
use Rattle.std.specs.Prelude.{ℕ, true, List, [], ◌∷◌, Option, None, Some}
use Rattle.pm_cargo.specs.Workspace.{Workspace}
use Rattle.pm_lower_load.specs.Roots as cargo
use Rattle.pm_lower_load.specs.declared.package_root.PackageRoot.{PackageRoot}

-- the root of the file itself
abbrev pub detached_root : List ℕ → PackageRoot
detached_root file = record { is_local = true; include = file ∷ []; exclude = [] }

-- the roots of a Cargo project, if there is one; what a package's build wrote into is known by the package's
-- number
abbrev pub cargo_roots : Option Workspace → (ℕ → Option (List ℕ)) → List (List ℕ) → List PackageRoot
cargo_roots None out_dir extra = []
cargo_roots (Some w) out_dir extra = cargo.roots_of w out_dir extra

-- the roots of a file
abbrev pub detached_roots : List ℕ → Option Workspace → (ℕ → Option (List ℕ)) → List (List ℕ)
    → List PackageRoot
detached_roots file w out_dir extra = detached_root file ∷ cargo_roots w out_dir extra
