-- an artifact is read in two parts: its package and target, and then how it was built
use Rattle.std.proofs.Common.{◌≡◌, ℕ, Bool, List, [], Option, Ok, Err, codes, refl}
use Rattle.serde_json.specs.Data.{Members}
use Rattle.json_fields.specs.Fields.{default_member, flag_at, list_at, optional_member, required_member, text_at}
use Rattle.base_values.specs.Outcome.{◌>>=◌}
use Rattle.json_fields.specs.Outcome.{Reading}
use Rattle.cargo_meta_values.specs.Names.{package_id_at}
use Rattle.cargo_meta_values.specs.Target.{target_at}
use Rattle.cargo_meta_values.specs.declared.names.PackageId.{PackageId}
use Rattle.cargo_meta_values.specs.declared.target.Target.{Target}
use Rattle.cargo_msgs.specs.Artifact.{artifact_from, profile_at}
use Rattle.cargo_msgs.specs.Gathering.{build_from}
use Rattle.cargo_msgs.specs.declared.artifact.Artifact.{Artifact}
use Rattle.cargo_msgs.specs.declared.artifact.ArtifactProfile.{ArtifactProfile}
use Rattle.cargo_msgs.specs.declared.artifact.ArtifactBuild.{ArtifactBuild}

-- an artifact of its parts
abbrev pub artifact_of : PackageId → List ℕ → Target → ArtifactBuild → Artifact
artifact_of package_id manifest_path target build = record {
  package_id = package_id;
  manifest_path = manifest_path;
  target = target;
  profile = build.profile;
  features = build.features;
  filenames = build.filenames;
  executable = build.executable;
  fresh = build.fresh;
}

abbrev build_read : Reading ArtifactProfile → Reading (List (List ℕ)) → Reading (List (List ℕ)) → Reading (Option (List ℕ)) → Reading Bool → Reading ArtifactBuild
build_read p fs ns x f = p >>= λ p. fs >>= λ fs. ns >>= λ ns. x >>= λ x. f >>= λ f.
    Ok (record { profile = p; features = fs; filenames = ns; executable = x; fresh = f })

abbrev whole : Reading PackageId → Reading (List ℕ) → Reading Target
    → Reading ArtifactProfile → Reading (List (List ℕ)) → Reading (List (List ℕ)) → Reading (Option (List ℕ)) → Reading Bool → Reading Artifact
whole i m t p fs ns x f = i >>= λ i. m >>= λ m. t >>= λ t. p >>= λ p. fs >>= λ fs. ns >>= λ ns. x >>= λ x. f >>= λ f.
    Ok (artifact_of i m t (record { profile = p; features = fs; filenames = ns; executable = x; fresh = f }))

abbrev parts : Reading PackageId → Reading (List ℕ) → Reading Target → Reading ArtifactBuild → Reading Artifact
parts i m t b = i >>= λ i. m >>= λ m. t >>= λ t. b >>= λ b. Ok (artifact_of i m t b)

in_parts : (i : Reading PackageId) (m : Reading (List ℕ)) (t : Reading Target)
    (p : Reading ArtifactProfile) (fs ns : Reading (List (List ℕ))) (x : Reading (Option (List ℕ))) (f : Reading Bool)
    → whole i m t p fs ns x f ≡ parts i m t (build_read p fs ns x f)
in_parts (Err e) m t p fs ns x f = refl
in_parts (Ok i) (Err e) t p fs ns x f = refl
in_parts (Ok i) (Ok m) (Err e) p fs ns x f = refl
in_parts (Ok i) (Ok m) (Ok t) (Err e) fs ns x f = refl
in_parts (Ok i) (Ok m) (Ok t) (Ok p) (Err e) ns x f = refl
in_parts (Ok i) (Ok m) (Ok t) (Ok p) (Ok fs) (Err e) x f = refl
in_parts (Ok i) (Ok m) (Ok t) (Ok p) (Ok fs) (Ok ns) (Err e) f = refl
in_parts (Ok i) (Ok m) (Ok t) (Ok p) (Ok fs) (Ok ns) (Ok x) (Err e) = refl
in_parts (Ok i) (Ok m) (Ok t) (Ok p) (Ok fs) (Ok ns) (Ok x) (Ok f) = refl

pub artifact_in_parts : (ms : Members)
    → artifact_from ms ≡ parts (required_member (codes "package_id") package_id_at ms) (default_member (codes "manifest_path") [] text_at ms)
    (required_member (codes "target") target_at ms) (build_from ms)
unfolding artifact_from build_from
artifact_in_parts ms = in_parts (required_member (codes "package_id") package_id_at ms) (default_member (codes "manifest_path") [] text_at ms)
    (required_member (codes "target") target_at ms) (required_member (codes "profile") profile_at ms) (required_member (codes "features") (list_at text_at) ms)
    (required_member (codes "filenames") (list_at text_at) ms) (optional_member (codes "executable") text_at ms) (required_member (codes "fresh") flag_at ms)
