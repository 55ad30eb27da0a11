-- the table of a crate, in the field order of `rust-project.json`: two groups of rows
use Rattle.std.specs.Prelude.{◌≡◌, [], codes, false, refl, Ok}
use Rattle.serde_json.specs.Data.{Data, boolean, object, string, Members, no_members}
use Rattle.json_fields.specs.Cfg.{cfg_at, cfg_data}
use Rattle.json_fields.specs.Fields.{default_member, flag_at, list_at, map_at, members_at, optional_member, required_member, text_at}
use Rattle.base_values.specs.Outcome.{◌>>=◌}
use Rattle.json_fields.specs.Outcome.{Reading}
use Rattle.json_fields.specs.Versions.{version_at, version_data}
use Rattle.json_fields.specs.Written.{is_null, list_data, map_data, option_data, set_member}
use Rattle.pm_json.specs.Dep.{dep_at, dep_data}
use Rattle.pm_json.specs.Kinds.{json_edition_at, json_edition_data}
use Rattle.pm_json.specs.Parts.{build_data_at, build_data, crate_source_at, crate_source_data}
use Rattle.pm_json.specs.declared.crate_data.CrateData.{CrateData}
use Rattle.pm_json.specs.declared.crate_rows.CrateHead.{CrateHead}
use Rattle.pm_json.specs.declared.crate_rows.CrateTail.{CrateTail}

-- the first eight rows
unfoldable pub crate_head_from : Members → Reading CrateHead
crate_head_from ms = do
  display_name ← optional_member (codes "display_name") text_at ms
  root_module ← required_member (codes "root_module") text_at ms
  edition ← required_member (codes "edition") json_edition_at ms
  version ← optional_member (codes "version") version_at ms
  deps ← required_member (codes "deps") (list_at dep_at) ms
  cfg_groups ← default_member (codes "cfg_groups") [] (list_at text_at) ms
  cfg ← default_member (codes "cfg") [] (list_at cfg_at) ms
  target ← optional_member (codes "target") text_at ms
  Ok (record {
    display_name = display_name;
    root_module = root_module;
    edition = edition;
    version = version;
    deps = deps;
    cfg_groups = cfg_groups;
    cfg = cfg;
    target = target;
  })

-- the nine rows after them
unfoldable pub crate_tail_from : Members → Reading CrateTail
crate_tail_from ms = do
  env ← default_member (codes "env") [] (map_at text_at) ms
  crate_attrs ← default_member (codes "crate_attrs") [] (list_at text_at) ms
  proc_macro_dylib_path ← optional_member (codes "proc_macro_dylib_path") text_at ms
  is_workspace_member ← optional_member (codes "is_workspace_member") flag_at ms
  source ← optional_member (codes "source") crate_source_at ms
  is_proc_macro ← default_member (codes "is_proc_macro") false flag_at ms
  repository ← optional_member (codes "repository") text_at ms
  build ← optional_member (codes "build") build_data_at ms
  proc_macro_cwd ← optional_member (codes "proc_macro_cwd") text_at ms
  Ok (record {
    env = env;
    crate_attrs = crate_attrs;
    proc_macro_dylib_path = proc_macro_dylib_path;
    is_workspace_member = is_workspace_member;
    source = source;
    is_proc_macro = is_proc_macro;
    repository = repository;
    build = build;
    proc_macro_cwd = proc_macro_cwd;
  })

-- the crate of its rows
abbrev pub crate_of_rows : CrateHead → CrateTail → CrateData
crate_of_rows head tail = record {
  display_name = head.display_name;
  root_module = head.root_module;
  edition = head.edition;
  version = head.version;
  deps = head.deps;
  cfg_groups = head.cfg_groups;
  cfg = head.cfg;
  target = head.target;
  env = tail.env;
  crate_attrs = tail.crate_attrs;
  proc_macro_dylib_path = tail.proc_macro_dylib_path;
  is_workspace_member = tail.is_workspace_member;
  source = tail.source;
  is_proc_macro = tail.is_proc_macro;
  repository = tail.repository;
  build = tail.build;
  proc_macro_cwd = tail.proc_macro_cwd;
}

-- a crate as its members have it
unfoldable pub crate_from : Members → Reading CrateData
crate_from ms = do
  head ← crate_head_from ms
  tail ← crate_tail_from ms
  Ok (crate_of_rows head tail)

-- a crate as its document has it
unfoldable pub crate_at : Data → Reading CrateData
crate_at d = members_at d >>= crate_from

-- what the first rows of a crate have
abbrev pub stated_head : CrateData → CrateHead
stated_head c = record {
  display_name = c.display_name;
  root_module = c.root_module;
  edition = c.edition;
  version = c.version;
  deps = c.deps;
  cfg_groups = c.cfg_groups;
  cfg = c.cfg;
  target = c.target;
}

-- what the others have
abbrev pub stated_tail : CrateData → CrateTail
stated_tail c = record {
  env = c.env;
  crate_attrs = c.crate_attrs;
  proc_macro_dylib_path = c.proc_macro_dylib_path;
  is_workspace_member = c.is_workspace_member;
  source = c.source;
  is_proc_macro = c.is_proc_macro;
  repository = c.repository;
  build = c.build;
  proc_macro_cwd = c.proc_macro_cwd;
}

-- the first eight members of a crate, put among members
unfoldable pub crate_head_set : CrateHead → Members → Members
crate_head_set c ms =
    set_member (codes "target") (option_data string c.target)
    (set_member (codes "cfg") (list_data cfg_data c.cfg)
    (set_member (codes "cfg_groups") (list_data string c.cfg_groups)
    (set_member (codes "deps") (list_data dep_data c.deps)
    (set_member (codes "version") (option_data version_data c.version)
    (set_member (codes "edition") (json_edition_data c.edition)
    (set_member (codes "root_module") (string c.root_module)
    (set_member (codes "display_name") (option_data string c.display_name) ms)))))))

-- the nine after them
unfoldable pub crate_tail_set : CrateTail → Members → Members
crate_tail_set c ms =
    set_member (codes "proc_macro_cwd") (option_data string c.proc_macro_cwd)
    (set_member (codes "build") (option_data build_data c.build)
    (set_member (codes "repository") (option_data string c.repository)
    (set_member (codes "is_proc_macro") (boolean c.is_proc_macro)
    (set_member (codes "source") (option_data crate_source_data c.source)
    (set_member (codes "is_workspace_member") (option_data boolean c.is_workspace_member)
    (set_member (codes "proc_macro_dylib_path") (option_data string c.proc_macro_dylib_path)
    (set_member (codes "crate_attrs") (list_data string c.crate_attrs)
    (set_member (codes "env") (map_data string c.env) ms))))))))

-- the members of a crate
unfoldable pub crate_members : CrateData → Members
crate_members c = crate_tail_set (stated_tail c) (crate_head_set (stated_head c) no_members)

-- the document of a crate
unfoldable pub crate_data : CrateData → Data
crate_data c = object (crate_members c)

-- a crate is not written as null
pub crate_data-present : (c : CrateData) → is_null (crate_data c) ≡ false
unfolding crate_data
crate_data-present c = refl
