-- the tables of what a build system knows of a crate, of a crate's sources, and of a runnable
use Rattle.std.specs.Prelude.{◌≡◌, codes, false, refl, Ok}
use Rattle.serde_json.specs.Data.{Data, object, string, no_members}
use Rattle.json_fields.specs.Fields.{list_at, members_at, required_member, text_at}
use Rattle.base_values.specs.Outcome.{◌>>=◌}
use Rattle.json_fields.specs.Outcome.{Reading}
use Rattle.json_fields.specs.Written.{is_null, list_data, set_member}
use Rattle.pm_json.specs.Kinds.{runnable_kind_at, runnable_kind_data, json_target_kind_at, json_target_kind_data}
use Rattle.pm_json.specs.declared.parts.BuildData.{BuildData}
use Rattle.pm_json.specs.declared.parts.CrateSource.{CrateSource}
use Rattle.pm_json.specs.declared.parts.Runnable.{Runnable}

-- what a build system knows of a crate
unfoldable pub build_data_at : Data → Reading BuildData
build_data_at d = do
  ms ← members_at d
  label ← required_member (codes "label") text_at ms
  build_file ← required_member (codes "build_file") text_at ms
  target_kind ← required_member (codes "target_kind") json_target_kind_at ms
  Ok (record { label = label; build_file = build_file; target_kind = target_kind })

-- its document
unfoldable pub build_data : BuildData → Data
build_data b =
    object (set_member (codes "target_kind") (json_target_kind_data b.target_kind)
    (set_member (codes "build_file") (string b.build_file)
    (set_member (codes "label") (string b.label) no_members)))

-- it is not written as null
pub build_data-present : (b : BuildData) → is_null (build_data b) ≡ false
unfolding build_data
build_data-present b = refl

-- the directories of a crate's sources
unfoldable pub crate_source_at : Data → Reading CrateSource
crate_source_at d = do
  ms ← members_at d
  include_dirs ← required_member (codes "include_dirs") (list_at text_at) ms
  exclude_dirs ← required_member (codes "exclude_dirs") (list_at text_at) ms
  Ok (record { include_dirs = include_dirs; exclude_dirs = exclude_dirs })

-- their document
unfoldable pub crate_source_data : CrateSource → Data
crate_source_data s =
    object
    (set_member (codes "exclude_dirs") (list_data string s.exclude_dirs) (set_member (codes "include_dirs") (list_data string s.include_dirs) no_members))

-- they are not written as null
pub source_data-present : (s : CrateSource) → is_null (crate_source_data s) ≡ false
unfolding crate_source_data
source_data-present s = refl

-- a runnable
unfoldable pub runnable_at : Data → Reading Runnable
runnable_at d = do
  ms ← members_at d
  program ← required_member (codes "program") text_at ms
  args ← required_member (codes "args") (list_at text_at) ms
  cwd ← required_member (codes "cwd") text_at ms
  kind ← required_member (codes "kind") runnable_kind_at ms
  Ok (record { program = program; args = args; cwd = cwd; kind = kind })

-- the document of a runnable
unfoldable pub runnable_data : Runnable → Data
runnable_data r =
    object (set_member (codes "kind") (runnable_kind_data r.kind)
    (set_member (codes "cwd") (string r.cwd)
    (set_member (codes "args") (list_data string r.args)
    (set_member (codes "program") (string r.program) no_members))))

-- a runnable is not written as null
pub runnable_data-present : (r : Runnable) → is_null (runnable_data r) ≡ false
unfolding runnable_data
runnable_data-present r = refl
