-- What the code reads of a crate in two parts, and what of a crate it gives back; no public clause names it.
use Rattle.std.specs.Prelude.{ℕ, List, Ok}
use Rattle.base_text_outside.specs.declared.cfg.CfgAtom.{CfgAtom}
use Rattle.pm_json.specs.declared.crate_data.CrateData.{CrateData}
use Rattle.base_values.specs.Outcome.{◌>>=◌}
use Rattle.pm_json.specs.Refusals.{Reading}
use Rattle.pm_json.specs.declared.crate_parts.CrateHead.{CrateHead}
use Rattle.pm_json.specs.declared.crate_parts.CrateTail.{CrateTail}
use Rattle.pm_json.specs.declared.krate.Crate.{Crate}
use Rattle.pm_json.specs.Crates.{Groups, cfgs_of, head_on_base}

-- what of a crate is read on the base, and all of its atoms
abbrev pub parts_from : List ℕ → Groups → CrateData → Reading (CrateHead × List CfgAtom)
parts_from base groups stated = do
  head ← head_on_base base stated
  Ok (head, cfgs_of groups stated.cfg_groups stated.cfg)

-- what of a crate is read on the base
abbrev pub read_head : Crate → CrateHead
read_head c = record {
  display_name = c.display_name;
  root_module = c.root_module;
  version = c.version;
  proc_macro_dylib_path = c.proc_macro_dylib_path;
  is_workspace_member = c.is_workspace_member;
  include = c.include;
  exclude = c.exclude;
  proc_macro_cwd = c.proc_macro_cwd;
}

-- what of a crate is taken as it is stated
abbrev pub taken_tail : Crate → CrateTail
taken_tail c = record {
  edition = c.edition;
  deps = c.deps;
  cfg = c.cfg;
  target = c.target;
  env = c.env;
  crate_attrs = c.crate_attrs;
  is_proc_macro = c.is_proc_macro;
  repository = c.repository;
  build = c.build;
}
