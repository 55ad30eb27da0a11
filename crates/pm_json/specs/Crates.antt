-- the crates of a project, as rust-analyzer reads those of a `rust-project.json` on a base directory
use Rattle.std.specs.Prelude.{ℕ, Bool, List, [], ◌∷◌, ◌++◌, map, flat_map, nat_eq, Option, Some, None, Ok, Err}
use Rattle.std.specs.Cmp.Lexicographic.{pointwise}
use Rattle.std.specs.List.{dedup}
use Rattle.std.specs.Option.{option_map, unwrap_or}
use Rattle.base_values.specs.ByText.{text_cmp, value_at}
use Rattle.base_values.specs.Sorted.{sorted}
use Rattle.base_text_paths.specs.Paths.{components, components_with_tail, is_prefix, parent_text, path_text, resolved_components}
use Rattle.base_text_outside.specs.declared.cfg.CfgAtom.{CfgAtom}
use Rattle.crate_graph_values.specs.Names.{shown_as}
use Rattle.json_fields.specs.Versions.{version_text}
use Rattle.pm_json.specs.Kinds.{edition_from, target_kind_from}
use Rattle.pm_json.specs.declared.crate_data.CrateData.{CrateData}
use Rattle.pm_json.specs.declared.parts.BuildData.{BuildData}
use Rattle.pm_json.specs.declared.parts.CrateSource.{CrateSource}
use Rattle.base_values.specs.Outcome.{◌>>=◌}
use Rattle.pm_json.specs.Refusals.{Reading, under}
use Rattle.pm_json.specs.declared.krate.Build.{Build}
use Rattle.pm_json.specs.declared.crate_parts.CrateHead.{CrateHead}
use Rattle.pm_json.specs.declared.crate_parts.CrateTail.{CrateTail}
use Rattle.pm_json.specs.declared.krate.Crate.{Crate}
use Rattle.pm_json.specs.declared.reading.Folders.{Folders}
use Rattle.pm_json.specs.declared.workspace_json_error.WorkspaceJsonError.TheVariants.{NoParent}

-- a path of a document, absolute and with no `..`: one that is not absolute lies below the base
abbrev pub absolute_from : List ℕ → List ℕ → List ℕ
absolute_from base path = path_text (resolved_components (components_with_tail base path))

-- whether a crate is a member: as it is stated, else where its root module lies below the base
abbrev pub is_member : Option Bool → List ℕ → List ℕ → Bool
is_member stated base root = unwrap_or stated (is_prefix (components base) (components root))

-- groups of atoms by their names
abbrev pub Groups : Type 0
Groups = List (List ℕ × List CfgAtom)

-- the names of a crate's groups, ascending, each once
abbrev pub group_names : List (List ℕ) → List (List ℕ)
group_names names = dedup (pointwise nat_eq) (sorted text_cmp names)

-- the atoms of a group, of which an unknown one has none
abbrev pub group_atoms : Groups → List ℕ → List CfgAtom
group_atoms groups name = unwrap_or (value_at name groups) []

-- the atoms of a crate: those of its groups, and then its own
unfoldable pub cfgs_of : Groups → List (List ℕ) → List CfgAtom → List CfgAtom
cfgs_of groups names own = flat_map (group_atoms groups) (group_names names) ++ own

-- the directory that a root module lies in, which `/` has not
abbrev pub folder_of_parent : List ℕ → Option (List ℕ) → Reading Folders
folder_of_parent root (Some parent) = Ok (record { include = parent ∷ []; exclude = [] })
folder_of_parent root None = Err (NoParent root)

-- the directories of a crate: those that are stated, else the one that its root module lies in
abbrev pub folders_of : List ℕ → List ℕ → Option CrateSource → Reading Folders
folders_of base root (Some source) =
    Ok
    (record {
      include = map (absolute_from base) source.include_dirs;
      exclude = map (absolute_from base) source.exclude_dirs;
    })
folders_of base root None = folder_of_parent root (parent_text root)

-- what a build system knows of a crate
abbrev pub stated_build : BuildData → Build
stated_build stated = record {
  label = stated.label;
  build_file = stated.build_file;
  target_kind = target_kind_from stated.target_kind;
}

-- what of a crate is read on the base
unfoldable pub head_on_base : List ℕ → CrateData → Reading CrateHead
head_on_base base stated = do
  folders ← folders_of base (absolute_from base stated.root_module) stated.source
  Ok (record {
    display_name = option_map shown_as stated.display_name;
    root_module = absolute_from base stated.root_module;
    version = option_map version_text stated.version;
    proc_macro_dylib_path = option_map (absolute_from base) stated.proc_macro_dylib_path;
    is_workspace_member = is_member stated.is_workspace_member base (absolute_from base stated.root_module);
    include = folders.include;
    exclude = folders.exclude;
    proc_macro_cwd = option_map (absolute_from base) stated.proc_macro_cwd;
  })

-- what is taken as it is stated, with the atoms of the groups and the crate's own
abbrev pub tail_with : CrateData → List CfgAtom → CrateTail
tail_with stated cfg = record {
  edition = edition_from stated.edition;
  deps = stated.deps;
  cfg = cfg;
  target = stated.target;
  env = stated.env;
  crate_attrs = stated.crate_attrs;
  is_proc_macro = stated.is_proc_macro;
  repository = stated.repository;
  build = option_map stated_build stated.build;
}

-- the crate of both
abbrev pub crate_with : CrateHead → CrateTail → Crate
crate_with head tail = record {
  display_name = head.display_name;
  root_module = head.root_module;
  edition = tail.edition;
  version = head.version;
  deps = tail.deps;
  cfg = tail.cfg;
  target = tail.target;
  env = tail.env;
  crate_attrs = tail.crate_attrs;
  proc_macro_dylib_path = head.proc_macro_dylib_path;
  is_workspace_member = head.is_workspace_member;
  include = head.include;
  exclude = head.exclude;
  is_proc_macro = tail.is_proc_macro;
  proc_macro_cwd = head.proc_macro_cwd;
  repository = tail.repository;
  build = tail.build;
}

-- a crate of a document
unfoldable pub project_crate : List ℕ → Groups → CrateData → Reading Crate
project_crate base groups stated = do
  head ← head_on_base base stated
  Ok (crate_with head (tail_with stated (cfgs_of groups stated.cfg_groups stated.cfg)))

-- the crates of a document in order, of which the first that is refused refuses all
abbrev pub crates_on_base : List ℕ → Groups → List CrateData → Reading (List Crate)
crates_on_base base groups [] = Ok []
crates_on_base base groups (stated ∷ rest) =
    project_crate base groups stated
    >>= λ krate. under (λ crates. krate ∷ crates) (crates_on_base base groups rest)
