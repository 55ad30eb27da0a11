-- What code reads of an artifact in one part. The rules are those of `Artifact`; no public clause names this.
use Rattle.std.specs.Prelude.{codes, Ok}
use Rattle.serde_json.specs.Data.{Members}
use Rattle.json_fields.specs.Fields.{flag_at, list_at, optional_member, required_member, text_at}
use Rattle.base_values.specs.Outcome.{◌>>=◌}
use Rattle.json_fields.specs.Outcome.{Reading}
use Rattle.cargo_msgs.specs.Artifact.{profile_at}
use Rattle.cargo_msgs.specs.declared.artifact.ArtifactBuild.{ArtifactBuild}

-- how an artifact was built, and its files, by the members of its document
unfoldable pub build_from : Members → Reading ArtifactBuild
build_from ms = do
  profile ← required_member (codes "profile") profile_at ms
  features ← required_member (codes "features") (list_at text_at) ms
  filenames ← required_member (codes "filenames") (list_at text_at) ms
  executable ← optional_member (codes "executable") text_at ms
  fresh ← required_member (codes "fresh") flag_at ms
  Ok (record {
    profile = profile;
    features = features;
    filenames = filenames;
    executable = executable;
    fresh = fresh;
  })
