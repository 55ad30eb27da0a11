-- what is read of a build script's document, and of a build's end, is read again from what is written of it
use Rattle.std.specs.Prelude.{◌≤◌, max, [], codes, refl}
use Rattle.std.proofs.Common.{arith}
use Rattle.serde_json.specs.Data.{members_depth}
use Rattle.json_fields.specs.Fields.{default_member, required_member}
use Rattle.json_fields.specs.Laws.Pairs.{pair-round_trips}
use Rattle.json_fields.specs.Laws.RoundTrips.{AreWithin, and_then, at_last, default_member-kept, flag-round_trips, list-round_trips, no_members-written, required_member-kept, set_member-written, table-round_trips, text-round_trips}
use Rattle.json_fields.specs.RoundTrip.{RoundTrips}
use Rattle.json_fields.specs.Written.{set_member}
use Rattle.cargo_meta_values.specs.laws.Names.{package_id-round_trips}
use Rattle.cargo_msgs.specs.Build.{build_finished_at, build_finished_data, build_finished_from, build_script_at, build_script_data, build_script_from}

-- build scripts
pub build_script-round_trips : RoundTrips build_script_at build_script_data 0
unfolding build_script_at build_script_from build_script_data required_member default_member set_member
build_script-round_trips = table-round_trips _ build_script_data 0 λ ms.
    let n = max 0 (members_depth ms) in
    let within : AreWithin n ms = record { within = omega arith } in
    let none : 0 ≤ n = omega arith in
    and_then (required_member-kept package_id-round_trips none within (codes "package_id"))
    λ package_id package_id_h.
    and_then
    (required_member-kept (list-round_trips _ _ _ text-round_trips) none within (codes "linked_libs"))
    λ linked_libs linked_libs_h.
    and_then
    (required_member-kept (list-round_trips _ _ _ text-round_trips) none within (codes "linked_paths"))
    λ linked_paths linked_paths_h.
    and_then (required_member-kept (list-round_trips _ _ _ text-round_trips) none within (codes "cfgs"))
    λ cfgs cfgs_h.
    and_then
    (required_member-kept (list-round_trips _ _ _ (pair-round_trips _ _ _ text-round_trips _ _ _ text-round_trips)) none within (codes "env"))
    λ env env_h.
    and_then
    (default_member-kept text-round_trips none within (codes "out_dir") [] (record {
      again = refl;
      clean = λ _. refl;
      nests = omega arith;
    })) λ out_dir out_dir_h.
    let written =
    set_member-written (codes "out_dir") out_dir_h
    (set_member-written (codes "env") env_h
    (set_member-written (codes "cfgs") cfgs_h
    (set_member-written (codes "linked_paths") linked_paths_h
    (set_member-written (codes "linked_libs") linked_libs_h
    (set_member-written (codes "package_id") package_id_h (no_members-written _ _))))))
    in
    at_last (record {
      again = rw (linked_libs_h.again, linked_paths_h.again, cfgs_h.again, env_h.again) refl;
      clean = written.clean;
      nests = omega (arith, written.nests);
    })

-- the ends of builds
pub build_finished-round_trips : RoundTrips build_finished_at build_finished_data 0
unfolding build_finished_at build_finished_from build_finished_data required_member set_member
build_finished-round_trips = table-round_trips _ build_finished_data 0 λ ms.
    let n = max 0 (members_depth ms) in
    let within : AreWithin n ms = record { within = omega arith } in
    let none : 0 ≤ n = omega arith in
    and_then (required_member-kept flag-round_trips none within (codes "success")) λ success success_h.
    let written = set_member-written (codes "success") success_h (no_members-written _ _) in
    at_last (record { again = refl; clean = written.clean; nests = omega (arith, written.nests) })
