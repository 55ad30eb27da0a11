-- the tables of an artifact and of its profile, in the field order of `cargo`'s messages
use Rattle.std.specs.Prelude.{[], codes, Ok}
use Rattle.serde_json.specs.Data.{Data, Members, object, no_members, boolean, string}
use Rattle.json_fields.specs.Fields.{default_member, flag_at, list_at, members_at, optional_member, required_member, text_at}
use Rattle.base_values.specs.Outcome.{◌>>=◌}
use Rattle.json_fields.specs.Outcome.{Reading}
use Rattle.json_fields.specs.Written.{list_data, option_data, set_member}
use Rattle.cargo_meta_values.specs.Names.{package_id_at, package_id_data}
use Rattle.cargo_meta_values.specs.Target.{target_at, target_data}
use Rattle.cargo_msgs.specs.Debuginfo.{debuginfo_at, debuginfo_data}
use Rattle.cargo_msgs.specs.declared.artifact.Artifact.{Artifact}
use Rattle.cargo_msgs.specs.declared.artifact.ArtifactProfile.{ArtifactProfile}
use Rattle.cargo_msgs.specs.declared.debuginfo.ArtifactDebuginfo.TheVariants as debuginfo

-- a profile
unfoldable pub profile_at : Data → Reading ArtifactProfile
profile_at d = do
  ms ← members_at d
  opt_level ← required_member (codes "opt_level") text_at ms
  info ← default_member (codes "debuginfo") debuginfo.None debuginfo_at ms
  debug_assertions ← required_member (codes "debug_assertions") flag_at ms
  overflow_checks ← required_member (codes "overflow_checks") flag_at ms
  test ← required_member (codes "test") flag_at ms
  Ok (record {
    opt_level = opt_level;
    debuginfo = info;
    debug_assertions = debug_assertions;
    overflow_checks = overflow_checks;
    test = test;
  })

-- the document of a profile
unfoldable pub profile_data : ArtifactProfile → Data
profile_data p =
    object (set_member (codes "test") (boolean p.test)
    (set_member (codes "overflow_checks") (boolean p.overflow_checks)
    (set_member (codes "debug_assertions") (boolean p.debug_assertions)
    (set_member (codes "debuginfo") (debuginfo_data p.debuginfo)
    (set_member (codes "opt_level") (string p.opt_level) no_members)))))

-- an artifact, by the members of its document
unfoldable pub artifact_from : Members → Reading Artifact
artifact_from ms = do
  package_id ← required_member (codes "package_id") package_id_at ms
  manifest_path ← default_member (codes "manifest_path") [] text_at ms
  target ← required_member (codes "target") target_at ms
  profile ← required_member (codes "profile") profile_at ms
  features ← required_member (codes "features") (list_at text_at) ms
  filenames ← required_member (codes "filenames") (list_at text_at) ms
  executable ← optional_member (codes "executable") text_at ms
  fresh ← required_member (codes "fresh") flag_at ms
  Ok (record {
    package_id = package_id;
    manifest_path = manifest_path;
    target = target;
    profile = profile;
    features = features;
    filenames = filenames;
    executable = executable;
    fresh = fresh;
  })

-- an artifact as its document gives it
unfoldable pub artifact_at : Data → Reading Artifact
artifact_at d = members_at d >>= artifact_from

-- the document of an artifact
unfoldable pub artifact_data : Artifact → Data
artifact_data a =
    object (set_member (codes "fresh") (boolean a.fresh)
    (set_member (codes "executable") (option_data string a.executable)
    (set_member (codes "filenames") (list_data string a.filenames)
    (set_member (codes "features") (list_data string a.features)
    (set_member (codes "profile") (profile_data a.profile)
    (set_member (codes "target") (target_data a.target)
    (set_member (codes "manifest_path") (string a.manifest_path)
    (set_member (codes "package_id") (package_id_data a.package_id) no_members))))))))
