-- The roots of a Cargo workspace, one for each package: which directories its files are read from, and which
-- are left out. The rules are those of rust-analyzer's `ProjectWorkspace::to_roots`.
use Rattle.std.specs.Prelude.{ℕ, Bool, not, if◌then◌else◌, List, [], ◌∷◌, ◌++◌, map, filter, flat_map, slice_get, codes, Option}
use Rattle.std.specs.List.{dedup, enumerate_from}
use Rattle.std.specs.Option.{option_and_then, option_map, option_map_or, option_to_list}
use Rattle.base_values.specs.Sorted.{sorted}
use Rattle.base_text_paths.specs.Arena.{number_of}
use Rattle.base_text_paths.specs.declared.arena.Idx.{Idx}
use Rattle.base_text_paths.specs.PathOrder.{path_cmp, path_eq}
use Rattle.base_text_paths.specs.Paths.{components, components_with_tail, is_prefix, normal, parent_text, path_text}
use Rattle.base_text_paths.specs.ManifestPath.{directory_of}
use Rattle.pm_cargo_packages.specs.declared.package.PackageData.{PackageData}
use Rattle.pm_cargo_packages.specs.declared.target.TargetTag.{TargetTag}
use Rattle.pm_cargo.specs.Workspace.{Workspace}
use Rattle.pm_cargo.specs.declared.output.BuildScriptOutput.{BuildScriptOutput}
use Rattle.pm_lower_load.specs.declared.package_root.PackageRoot.{PackageRoot}

-- ---- directories

-- the directory that the build of the package with a number wrote into, if it did
abbrev pub out_dir_in : (ℕ → Option BuildScriptOutput) → ℕ → Option (List ℕ)
out_dir_in outputs number = option_and_then (λ output. output.out_dir) (outputs number)

-- the directory of a name below a directory
abbrev pub directory_below : List ℕ → List ℕ → List ℕ
directory_below dir name = path_text (components_with_tail dir name)

-- whether a path is outside of a directory
abbrev pub is_outside : List ℕ → List ℕ → Bool
is_outside dir path = not (is_prefix (components dir) (components path))

-- the directory that a file lies in, with each `..` resolved
abbrev pub normal_parent : List ℕ → Option (List ℕ)
normal_parent file = option_map (λ dir. path_text (normal dir)) (parent_text file)

-- the directory that a file lies in, with each `..` resolved, where it is outside of a directory
abbrev pub outside_directory : List ℕ → List ℕ → List (List ℕ)
outside_directory dir file = filter (is_outside dir) (option_to_list (normal_parent file))

-- ---- what is read of a package, and what is left out

-- such a directory of a target's root, by the directory of the target's package
abbrev pub target_directory : Workspace → PackageData → Idx TargetTag → List (List ℕ)
target_directory w p id =
    option_map_or (λ t. outside_directory (directory_of p.manifest) t.root)
    (slice_get w.targets (number_of id)) []

-- the directories of the roots of a package's targets that are outside of the package's directory
abbrev pub outside_directories : Workspace → PackageData → List (List ℕ)
outside_directories w p = flat_map (target_directory w p) p.targets

-- the directories that the files of a package are read from, in no order: its own, the one that its build
-- wrote into, those of targets outside, and for a local package the extra ones
abbrev pub read_directories : Workspace → Option (List ℕ) → List (List ℕ) → PackageData → List (List ℕ)
read_directories w out_dir extra p =
    directory_of p.manifest ∷ option_to_list out_dir ++ outside_directories w p
    ++ (if p.is_local then extra else [])

-- paths in their order, each once
abbrev pub ascending_paths : List (List ℕ) → List (List ℕ)
ascending_paths paths = dedup path_eq (sorted path_cmp paths)

-- the names of the directories of a package that are left out: git's, that of the builds of a local package,
-- and those of targets that are only read of members
abbrev pub excluded_names : PackageData → List (List ℕ)
excluded_names p =
    codes ".git" ∷ []
    ++ (if p.is_local then codes "target" ∷ [] else [])
    ++ (if p.is_member then [] else codes "tests" ∷ codes "examples" ∷ codes "benches" ∷ [])

-- ---- roots

-- the root of a package, by the directory that its build wrote into and the extra directories
abbrev pub package_root : Workspace → Option (List ℕ) → List (List ℕ) → PackageData → PackageRoot
package_root w out_dir extra p = record {
  is_local = p.is_local;
  include = ascending_paths (read_directories w out_dir extra p);
  exclude = map (directory_below (directory_of p.manifest)) (excluded_names p);
}

-- the roots of the packages in their order; what a package's build wrote into is known by the package's
-- number
abbrev pub roots_of : Workspace → (ℕ → Option (List ℕ)) → List (List ℕ) → List PackageRoot
roots_of w out_dir extra = map (λ p. package_root w (out_dir p.0) extra p.1) (enumerate_from 0 w.packages)
