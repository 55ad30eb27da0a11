-- the tables of a build script and of a build's end, in the field order of `cargo`'s messages
use Rattle.std.specs.Prelude.{[], codes, Ok}
use Rattle.serde_json.specs.Data.{Data, Members, object, no_members, boolean, string}
use Rattle.json_fields.specs.Fields.{default_member, flag_at, list_at, members_at, required_member, text_at}
use Rattle.base_values.specs.Outcome.{◌>>=◌}
use Rattle.json_fields.specs.Outcome.{Reading}
use Rattle.json_fields.specs.Pairs.{json_pair_at, pair_data}
use Rattle.json_fields.specs.Written.{list_data, set_member}
use Rattle.cargo_meta_values.specs.Names.{package_id_at, package_id_data}
use Rattle.cargo_msgs.specs.declared.build.BuildFinished.{BuildFinished}
use Rattle.cargo_msgs.specs.declared.build.BuildScript.{BuildScript}

-- a build script, by the members of its document
unfoldable pub build_script_from : Members → Reading BuildScript
build_script_from ms = do
  package_id ← required_member (codes "package_id") package_id_at ms
  linked_libs ← required_member (codes "linked_libs") (list_at text_at) ms
  linked_paths ← required_member (codes "linked_paths") (list_at text_at) ms
  cfgs ← required_member (codes "cfgs") (list_at text_at) ms
  env ← required_member (codes "env") (list_at (json_pair_at text_at text_at)) ms
  out_dir ← default_member (codes "out_dir") [] text_at ms
  Ok (record {
    package_id = package_id;
    linked_libs = linked_libs;
    linked_paths = linked_paths;
    cfgs = cfgs;
    env = env;
    out_dir = out_dir;
  })

-- a build script as its document gives it
unfoldable pub build_script_at : Data → Reading BuildScript
build_script_at d = members_at d >>= build_script_from

-- the document of a build script
unfoldable pub build_script_data : BuildScript → Data
build_script_data s =
    object (set_member (codes "out_dir") (string s.out_dir)
    (set_member (codes "env") (list_data (pair_data string string) s.env)
    (set_member (codes "cfgs") (list_data string s.cfgs)
    (set_member (codes "linked_paths") (list_data string s.linked_paths)
    (set_member (codes "linked_libs") (list_data string s.linked_libs)
    (set_member (codes "package_id") (package_id_data s.package_id) no_members))))))

-- the end of a build, by the members of its document
unfoldable pub build_finished_from : Members → Reading BuildFinished
build_finished_from ms = do
  success ← required_member (codes "success") flag_at ms
  Ok (record { success = success })

-- the end of a build as its document gives it
unfoldable pub build_finished_at : Data → Reading BuildFinished
build_finished_at d = members_at d >>= build_finished_from

-- the document of a build's end
unfoldable pub build_finished_data : BuildFinished → Data
build_finished_data b = object (set_member (codes "success") (boolean b.success) no_members)
