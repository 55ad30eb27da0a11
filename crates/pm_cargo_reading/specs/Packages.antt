-- The packages and targets of a document of `cargo metadata`: taken in the order of their ids, each counted
-- and checked before the next.
use Rattle.std.specs.Prelude.{ℕ, ◌-◌, Bool, ◌&&◌, true, false, List, [], ◌∷◌, ◌++◌, length, map, bytes_eq, codes, nat_lt, if◌then◌else◌, Option, Some, None, Ok, Err}
use Rattle.std.specs.List.{list_any, range_with_len}
use Rattle.std.specs.Option.{is_none, option_and_then, unwrap_or}
use Rattle.std.specs.declared.cmp.Ordering.{Ordering}
use Rattle.serde_json.specs.Data.{Data}
use Rattle.serde_json.specs.Find.{as_bool, get}
use Rattle.base_values.specs.ByText.{text_cmp}
use Rattle.base_values.specs.Sorted.{sorted}
use Rattle.base_text_paths.specs.declared.arena.Idx.{Idx}
use Rattle.base_text_paths.specs.Paths.{if_absolute}
use Rattle.base_text_paths.specs.declared.edition.Edition.{Edition}
use Rattle.base_text_paths.specs.declared.edition.Edition.TheVariants.{Edition2015, Edition2018, Edition2021, Edition2024}
use Rattle.base_text_outside.specs.declared.limits.Limit.TheVariants.{Packages, Targets}
use Rattle.base_text_outside.specs.declared.limits.Limits.{Limits}
use Rattle.cargo_meta_values.specs.declared.kinds.Edition as document
use Rattle.cargo_meta_values.specs.declared.kinds.Edition.TheVariants.{E2015, E2018, E2021, E2024, _E2027, _E2030}
use Rattle.cargo_meta_values.specs.declared.names.PackageId.{PackageId}
use Rattle.cargo_meta.specs.declared.package.Package.{Package}
use Rattle.cargo_meta_values.specs.declared.target.Target.{Target}
use Rattle.crate_graph_values.specs.declared.target_kind.TargetKind.{TargetKind}
use Rattle.crate_graph_values.specs.declared.target_kind.TargetKind.TheVariants.{Bin, Lib, Example, Test, Bench, BuildScript, Other}
use Rattle.pm_cargo_reading.specs.declared.contents.Contents.{Contents}
use Rattle.base_values.specs.Outcome.{◌>>=◌, take_each}
use Rattle.pm_cargo_reading.specs.Reading.{Reading}
use Rattle.base_text_paths.specs.ManifestPath.{is_rust_manifest}
use Rattle.pm_cargo_packages.specs.TargetKinds.{target_kind}
use Rattle.pm_cargo_packages.specs.Ids.{package_id, target_id}
use Rattle.pm_cargo_packages.specs.declared.package.PackageData.{PackageData}
use Rattle.pm_cargo_packages.specs.declared.target.TargetData.{TargetData}
use Rattle.pm_cargo_packages.specs.declared.target.TargetTag.{TargetTag}
use Rattle.pm_cargo_reading.specs.declared.workspace_error.WorkspaceError.TheVariants.{NotAbsolute, NoParent, TooMany}

-- ---- paths

-- the path of a text, which must be absolute; it is kept clean
unfoldable pub absolute_path : List ℕ → Reading (List ℕ)
absolute_path text = if_absolute text (λ path. Ok path) (Err (NotAbsolute text))

-- the path of a text that may be missing
abbrev pub optional_path : Option (List ℕ) → Reading (Option (List ℕ))
optional_path None = Ok None
optional_path (Some text) = absolute_path text >>= λ path. Ok (Some path)

-- the path of a manifest, which must be absolute and lie in a directory
unfoldable pub absolute_manifest : List ℕ → Reading (List ℕ)
absolute_manifest text =
    absolute_path text >>= λ path. if bytes_eq path (codes "/") then Err (NoParent path) else Ok path

-- ---- targets

-- whether a kind is that of a program
abbrev pub is_bin : TargetKind → Bool
is_bin Bin = true
is_bin (Lib macros) = false
is_bin Example = false
is_bin Test = false
is_bin Bench = false
is_bin BuildScript = false
is_bin Other = false

-- whether a target is the program of a script, which holds its own manifest
abbrev pub is_script : List ℕ → Target → Bool
is_script manifest t = is_bin (target_kind t.kind) && is_rust_manifest manifest

-- the root of a target: its source file, and for the program of a script the script
unfoldable pub target_root : List ℕ → Target → Reading (List ℕ)
target_root manifest t = if is_script manifest t then Ok manifest else absolute_path t.src_path

-- a target of the package at a place, with its root
abbrev pub target_with_root : ℕ → Target → List ℕ → TargetData
target_with_root place t root = record {
  «package» = package_id place;
  name = t.name;
  root = root;
  kind = target_kind t.kind;
  required_features = t.required_features;
}

-- one more target of the package at a place: it is counted, and then its root is checked
unfoldable pub take_target : ℕ → ℕ → List ℕ → List TargetData → Target → Reading (List TargetData)
take_target limit place manifest targets t =
    if nat_lt (length targets) limit then (target_root manifest t
    >>= λ root. Ok (targets ++ target_with_root place t root ∷ []))
    else Err (TooMany Targets)

-- ---- packages

-- the order of packages: that of the bytes of their ids
abbrev pub by_id : Package → Package → Ordering
by_id p q = text_cmp p.id.repr q.id.repr

-- the edition of a package; those that are not out yet are the last one
abbrev pub package_edition : document.Edition → Edition
package_edition E2015 = Edition2015
package_edition E2018 = Edition2018
package_edition E2021 = Edition2021
package_edition E2024 = Edition2024
package_edition _E2027 = Edition2024
package_edition _E2030 = Edition2024

-- whether an id is listed as that of a member
abbrev pub is_listed : List PackageId → PackageId → Bool
is_listed members id = list_any (λ member. bytes_eq member.repr id.repr) members

-- what the metadata table says under `rust-analyzer.rustc_private`, and no where that is no bool
unfoldable pub rustc_private : Data → Bool
rustc_private metadata =
    unwrap_or
    (option_and_then as_bool (option_and_then (get (codes "rustc_private")) (get (codes "rust-analyzer") metadata)))
    false

-- a package with its manifest and its targets, before the nodes are taken: it has no dependencies and no
-- active features yet
abbrev pub unresolved_package : Bool → List ℕ → List (Idx TargetTag) → Package → PackageData
unresolved_package is_member manifest targets p = record {
  version = p.version;
  name = p.name;
  repository = p.repository;
  manifest = manifest;
  targets = targets;
  is_local = is_none p.source;
  is_member = is_member;
  dependencies = [];
  edition = package_edition p.edition;
  features = p.features;
  active_features = [];
  id = p.id;
  authors = p.authors;
  description = p.description;
  homepage = p.homepage;
  license = p.license;
  license_file = p.license_file;
  readme = p.readme;
  rust_version = p.rust_version;
  metadata = record { rustc_private = rustc_private p.metadata };
  all_member_deps = None;
}

-- the ids of the targets at the places from one up to another
abbrev pub ids_between : ℕ → ℕ → List (Idx TargetTag)
ids_between first end = map target_id (range_with_len first (end - first))

-- the contents with a package and its targets, which follow the targets before
abbrev pub with_package : List PackageId → Contents → List ℕ → Package → List TargetData → Contents
with_package members contents manifest p targets = record {
  packages =
      contents.packages
      ++ unresolved_package (is_listed members p.id) manifest
      (ids_between (length contents.targets) (length targets)) p
      ∷ [];
  targets = targets;
}

-- one more package: it is counted, then its manifest is checked, then its targets are taken
unfoldable pub take_package : List PackageId → Limits → Contents → Package → Reading Contents
take_package members limits contents p =
    if nat_lt (length contents.packages) limits.packages then (absolute_manifest p.manifest_path
    >>= λ manifest.
    take_each (take_target limits.targets (length contents.packages) manifest) contents.targets p.targets
    >>= λ targets.
    Ok (with_package members contents manifest p targets)) else Err (TooMany Packages)

-- the packages of a document and their targets, in the order of the packages' ids
unfoldable pub contents_of : List PackageId → Limits → List Package → Reading Contents
contents_of members limits packages =
    take_each (take_package members limits) (record { packages = []; targets = [] }) (sorted by_id packages)

-- the order of packages of a workspace: that of the bytes of their ids
abbrev pub by_package_id : PackageData → PackageData → Ordering
by_package_id p q = text_cmp p.id.repr q.id.repr
