-- what is read of an artifact's document is read again from what is written of it
use Rattle.std.specs.Prelude.{◌≤◌, max, [], codes, refl}
use Rattle.std.proofs.Common.{arith}
use Rattle.serde_json.specs.Data.{members_depth}
use Rattle.json_fields.specs.Fields.{default_member, optional_member, required_member}
use Rattle.json_fields.specs.Laws.RoundTrips.{AreWithin, and_then, at_last, default_member-kept, flag-round_trips, list-round_trips, no_members-written, optional_member-kept, required_member-kept, set_member-written, table-round_trips, text-round_trips}
use Rattle.json_fields.specs.RoundTrip.{RoundTrips}
use Rattle.json_fields.specs.Written.{set_member}
use Rattle.cargo_meta_values.specs.laws.Names.{package_id-round_trips}
use Rattle.cargo_meta_values.specs.laws.Target.{target-round_trips}
use Rattle.cargo_msgs.specs.Artifact.{artifact_at, artifact_data, artifact_from, profile_at, profile_data}
use Rattle.cargo_msgs.specs.Debuginfo.{debuginfo_numbered}
use Rattle.cargo_msgs.specs.laws.Debuginfo.{debuginfo-round_trips}
use Rattle.cargo_msgs.specs.declared.debuginfo.ArtifactDebuginfo.TheVariants as debuginfo

-- profiles
pub profile-round_trips : RoundTrips profile_at profile_data 0
unfolding profile_at profile_data required_member default_member set_member debuginfo_numbered
profile-round_trips = table-round_trips _ profile_data 0 λ ms.
    let n = max 0 (members_depth ms) in
    let within : AreWithin n ms = record { within = omega arith } in
    let none : 0 ≤ n = omega arith in
    and_then (required_member-kept text-round_trips none within (codes "opt_level")) λ opt_level opt_level_h.
    and_then
    (default_member-kept debuginfo-round_trips none within (codes "debuginfo") debuginfo.None (record {
      again = refl;
      clean = λ _. refl;
      nests = omega arith;
    })) λ info info_h.
    and_then (required_member-kept flag-round_trips none within (codes "debug_assertions"))
    λ debug_assertions debug_assertions_h.
    and_then (required_member-kept flag-round_trips none within (codes "overflow_checks"))
    λ overflow_checks overflow_checks_h.
    and_then (required_member-kept flag-round_trips none within (codes "test")) λ test test_h.
    let written =
    set_member-written (codes "test") test_h
    (set_member-written (codes "overflow_checks") overflow_checks_h
    (set_member-written (codes "debug_assertions") debug_assertions_h
    (set_member-written (codes "debuginfo") info_h
    (set_member-written (codes "opt_level") opt_level_h (no_members-written _ _)))))
    in
    at_last
    (record { again = rw info_h.again refl; clean = written.clean; nests = omega (arith, written.nests) })

-- artifacts
pub artifact-round_trips : RoundTrips artifact_at artifact_data 3
unfolding artifact_at artifact_from artifact_data required_member optional_member default_member set_member
artifact-round_trips = table-round_trips _ artifact_data 3 λ ms.
    let n = max 2 (members_depth ms) in
    let within : AreWithin n ms = record { within = omega arith } in
    let none : 0 ≤ n = omega arith in
    let two : 2 ≤ n = omega arith in
    and_then (required_member-kept package_id-round_trips none within (codes "package_id"))
    λ package_id package_id_h.
    and_then
    (default_member-kept text-round_trips none within (codes "manifest_path") [] (record {
      again = refl;
      clean = λ _. refl;
      nests = omega arith;
    })) λ manifest_path manifest_path_h.
    and_then (required_member-kept target-round_trips two within (codes "target")) λ target target_h.
    and_then (required_member-kept profile-round_trips none within (codes "profile")) λ profile profile_h.
    and_then (required_member-kept (list-round_trips _ _ _ text-round_trips) none within (codes "features"))
    λ features features_h.
    and_then (required_member-kept (list-round_trips _ _ _ text-round_trips) none within (codes "filenames"))
    λ filenames filenames_h.
    and_then (optional_member-kept text-round_trips none within (λ x. refl) (codes "executable"))
    λ executable executable_h.
    and_then (required_member-kept flag-round_trips none within (codes "fresh")) λ fresh fresh_h.
    let written =
    set_member-written (codes "fresh") fresh_h
    (set_member-written (codes "executable") executable_h
    (set_member-written (codes "filenames") filenames_h
    (set_member-written (codes "features") features_h
    (set_member-written (codes "profile") profile_h
    (set_member-written (codes "target") target_h
    (set_member-written (codes "manifest_path") manifest_path_h
    (set_member-written (codes "package_id") package_id_h (no_members-written _ _))))))))
    in
    at_last (record {
      again =
          rw (target_h.again, profile_h.again, features_h.again, filenames_h.again, executable_h.again) refl;
      clean = written.clean;
      nests = omega (arith, written.nests);
    })
