-- The rows of a Cargo workspace: the targets that become crates. A row is known by its part of the project,
-- by the number of its package there and by the place of its target among those of the package. Rows are
-- numbered through in that order, over all parts; no number of a graph plays a part. The rule is that of
-- rust-analyzer's `cargo_to_crate_graph`.
use Rattle.std.specs.Prelude.{ℕ, ◌+◌, Bool, true, false, not, ◌&&◌, ◌||◌, List, [], ◌∷◌, length, filter, Option, None, if◌then◌else◌, slice_get}
use Rattle.std.specs.List.{enumerate_from, flat_map, last_or}
use Rattle.std.specs.Option.{option_and_then, option_map, option_to_list}
use Rattle.base_text_paths.specs.Arena.{number_of}
use Rattle.base_text_paths.specs.declared.arena.Idx.{Idx}
use Rattle.crate_graph_values.specs.declared.target_kind.TargetKind.{TargetKind}
use Rattle.crate_graph_values.specs.declared.target_kind.TargetKind.TheVariants.{Bin, Lib, Example, Test, Bench, BuildScript, Other}
use Rattle.pm_cargo_packages.specs.declared.package.PackageData.{PackageData}
use Rattle.pm_cargo_packages.specs.declared.target.TargetData.{TargetData}
use Rattle.pm_cargo_packages.specs.declared.target.TargetTag.{TargetTag}
use Rattle.pm_cargo.specs.Workspace.{Workspace}
use Rattle.pm_lower_crates.specs.Loader.{FileNumbers, file_number}

-- ---- kinds of targets

-- a library, one of procedural macros too
abbrev pub is_lib : TargetKind → Bool
is_lib Bin = false
is_lib (Lib macros) = true
is_lib Example = false
is_lib Test = false
is_lib Bench = false
is_lib BuildScript = false
is_lib Other = false

-- a library of procedural macros
abbrev pub is_macro_row : TargetKind → Bool
is_macro_row Bin = false
is_macro_row (Lib macros) = macros
is_macro_row Example = false
is_macro_row Test = false
is_macro_row Bench = false
is_macro_row BuildScript = false
is_macro_row Other = false

-- a build script
abbrev pub is_build_script : TargetKind → Bool
is_build_script Bin = false
is_build_script (Lib macros) = false
is_build_script Example = false
is_build_script Test = false
is_build_script Bench = false
is_build_script BuildScript = true
is_build_script Other = false

-- ---- rows

-- a row: a target of a package that becomes a crate
pub record Row : Type 0 where
  -- how many rows of the project come before it, those of other parts too
  pub number : ℕ
  -- the package, and its number in its part
  pub of : PackageData
  pub of_number : ℕ
  -- of the target among those of the package
  pub place : ℕ
  pub target : TargetData
  -- the file that the crate begins in
  pub file : ℕ

-- a package and its rows, in the order of its targets
pub record Owner : Type 0 where
  pub of : PackageData
  pub rows : List Row

-- a target may become a crate where it is a library or, outside a sysroot, that of a member
unfoldable pub may_be_row : Workspace → PackageData → TargetData → Bool
may_be_row w of target = is_lib target.kind || (of.is_member && not w.is_sysroot)

-- the file that a target's crate begins in: the target has a row where the file of its root is live
unfoldable pub root_file : FileNumbers → Workspace → PackageData → TargetData → Option ℕ
root_file files w of target = if may_be_row w of target then file_number files target.root else None

-- a target with the file that its crate begins in
unfoldable pub live_target : FileNumbers → Workspace → PackageData → Idx TargetTag → Option (TargetData × ℕ)
live_target files w of id =
    option_and_then (λ target. option_map (λ file. (target, file)) (root_file files w of target))
    (slice_get w.targets (number_of id))

-- the row of a target at a place, under a number, by the number of the package
abbrev pub row_at : ℕ → PackageData → ℕ × TargetData × ℕ → ℕ → Row
row_at p of t n = record { number = n; of = of; of_number = p; place = t.0; target = t.1; file = t.2 }

-- the targets of a package that have a row, each with its place and its file
unfoldable pub live_targets : FileNumbers → Workspace → PackageData → List (ℕ × Idx TargetTag)
    → List (ℕ × TargetData × ℕ)
live_targets files w of ids =
    flat_map (λ id. option_to_list (option_map (λ t. (id.0, t.0, t.1)) (live_target files w of id.1))) ids

-- the rows of some targets of the package with a number, numbered from n on
abbrev pub rows_from : ℕ → PackageData → ℕ → List (ℕ × TargetData × ℕ) → List Row
rows_from p of n [] = []
rows_from p of n (t ∷ ts) = row_at p of t n ∷ rows_from p of (n + 1) ts

-- the package with a number and its rows, numbered from n on
unfoldable pub owner : FileNumbers → Workspace → ℕ → ℕ → PackageData → Owner
owner files w p n of = record {
  of = of;
  rows = rows_from p of n (live_targets files w of (enumerate_from 0 of.targets));
}

-- the packages from the one with a number on, and their rows, numbered from n on
abbrev pub owners_from : FileNumbers → Workspace → ℕ → ℕ → List PackageData → List Owner
owners_from files w p n [] = []
owners_from files w p n (of ∷ more) =
    owner files w p n of ∷ owners_from files w (p + 1) (n + length (owner files w p n of).rows) more

-- the packages of a workspace and their rows, numbered from n on
abbrev pub owners : FileNumbers → Workspace → ℕ → List Owner
owners files w n = owners_from files w 0 n w.packages

-- the rows of some packages
abbrev pub rows_of : List Owner → List Row
rows_of owners = flat_map (λ o. o.rows) owners

-- the library among the rows of a package: the last that is one
abbrev pub library : List Row → Option Row
library rows = last_or None (filter (λ r. is_lib r.target.kind) rows)

-- the library of the package at a place
abbrev pub library_at : List Owner → ℕ → Option Row
library_at owners place = option_and_then (λ o. library o.rows) (slice_get owners place)
