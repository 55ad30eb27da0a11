-- The roots of a JSON project: for each crate the directories that its files are read from, and those that
-- are left out. Equal roots count once. The rule is that of rust-analyzer's `ProjectWorkspace::to_roots`;
-- there the order of the roots is not settled, here the first of each comes first.
use Rattle.std.specs.Prelude.{ℕ, Bool, ◌&&◌, List, [], ◌∷◌, ◌++◌, fold, map, if◌then◌else◌}
use Rattle.std.specs.Bool.{beq}
use Rattle.std.specs.Cmp.Lexicographic.{pointwise}
use Rattle.std.specs.List.{list_any}
use Rattle.base_text_paths.specs.PathOrder.{path_eq}
use Rattle.pm_json.specs.Queries.{crates_in}
use Rattle.pm_json.specs.declared.krate.Crate.{Crate}
use Rattle.pm_json.specs.declared.project_json.ProjectJson.{ProjectJson}
use Rattle.pm_lower_load.specs.declared.package_root.PackageRoot.{PackageRoot}

-- the root of a crate: it is local where the crate is a member, and the extra directories are read with each
abbrev pub json_crate_root : List (List ℕ) → Crate → PackageRoot
json_crate_root extra krate = record {
  is_local = krate.is_workspace_member;
  include = krate.include ++ extra;
  exclude = krate.exclude;
}

-- two roots are equal where all their fields are, their paths by components
abbrev pub root_eq : PackageRoot → PackageRoot → Bool
root_eq a b =
    beq a.is_local b.is_local
    && (pointwise path_eq a.include b.include && pointwise path_eq a.exclude b.exclude)

-- one more root, unless an equal one is there
abbrev pub with_distinct_root : List PackageRoot → PackageRoot → List PackageRoot
with_distinct_root roots root = if list_any (root_eq root) roots then roots else roots ++ root ∷ []

-- of equal roots the first alone, in their order
abbrev pub distinct_roots : List PackageRoot → List PackageRoot
distinct_roots roots = fold with_distinct_root [] roots

-- the roots of the crates of a project, with the extra directories
unfoldable pub json_roots : ProjectJson → List (List ℕ) → List PackageRoot
json_roots project extra = distinct_roots (map (json_crate_root extra) (crates_in project))
