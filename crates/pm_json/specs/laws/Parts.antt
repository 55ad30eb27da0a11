-- what is read of a build, of sources and of a runnable is read again from what is written of them
use Rattle.std.specs.Prelude.{◌≤◌, max, codes, refl}
use Rattle.std.proofs.Common.{arith}
use Rattle.serde_json.specs.Data.{members_depth}
use Rattle.json_fields.specs.Fields.{required_member}
use Rattle.json_fields.specs.Laws.RoundTrips.{AreWithin, and_then, at_last, list-round_trips, no_members-written, required_member-kept, set_member-written, table-round_trips, text-round_trips}
use Rattle.json_fields.specs.RoundTrip.{RoundTrips}
use Rattle.json_fields.specs.Written.{set_member}
use Rattle.pm_json.specs.Kinds.{json_target_kind_of}
use Rattle.pm_json.specs.Parts.{build_data_at, build_data, runnable_at, runnable_data, crate_source_at, crate_source_data}
use Rattle.pm_json.specs.laws.Kinds.{runnable_kind-of_text, runnable_kind-round_trips, json_target_kind-round_trips}

-- what a build system knows of a crate
pub build-round_trips : RoundTrips build_data_at build_data 0
unfolding build_data_at build_data required_member set_member json_target_kind_of
build-round_trips = table-round_trips _ build_data 0 λ ms.
    let n = max 0 (members_depth ms) in
    let within : AreWithin n ms = record { within = omega arith } in
    let none : 0 ≤ n = omega arith in
    and_then (required_member-kept text-round_trips none within (codes "label")) λ label label_h.
    and_then (required_member-kept text-round_trips none within (codes "build_file"))
    λ build_file build_file_h.
    and_then (required_member-kept json_target_kind-round_trips none within (codes "target_kind"))
    λ target_kind target_kind_h.
    let written =
    set_member-written (codes "target_kind") target_kind_h
    (set_member-written (codes "build_file") build_file_h
    (set_member-written (codes "label") label_h
    (no_members-written _ _)))
    in
    at_last
    (record {
      again = rw target_kind_h.again refl;
      clean = written.clean;
      nests = omega (arith, written.nests);
    })

-- the directories of sources
pub crate_source-round_trips : RoundTrips crate_source_at crate_source_data 0
unfolding crate_source_at crate_source_data required_member set_member
crate_source-round_trips = table-round_trips _ crate_source_data 0 λ ms.
    let n = max 0 (members_depth ms) in
    let within : AreWithin n ms = record { within = omega arith } in
    let none : 0 ≤ n = omega arith in
    and_then
    (required_member-kept (list-round_trips _ _ _ text-round_trips) none within (codes "include_dirs"))
    λ include_dirs include_dirs_h.
    and_then
    (required_member-kept (list-round_trips _ _ _ text-round_trips) none within (codes "exclude_dirs"))
    λ exclude_dirs exclude_dirs_h.
    let written =
    set_member-written (codes "exclude_dirs") exclude_dirs_h
    (set_member-written (codes "include_dirs") include_dirs_h
    (no_members-written _ _))
    in
    at_last
    (record {
      again = rw (include_dirs_h.again, exclude_dirs_h.again) refl;
      clean = written.clean;
      nests = omega (arith, written.nests);
    })

-- a runnable
pub runnable-round_trips : RoundTrips runnable_at runnable_data 0
unfolding runnable_at runnable_data required_member set_member
runnable-round_trips = table-round_trips _ runnable_data 0 λ ms.
    let n = max 0 (members_depth ms) in
    let within : AreWithin n ms = record { within = omega arith } in
    let none : 0 ≤ n = omega arith in
    and_then (required_member-kept text-round_trips none within (codes "program")) λ program program_h.
    and_then (required_member-kept (list-round_trips _ _ _ text-round_trips) none within (codes "args"))
    λ args args_h.
    and_then (required_member-kept text-round_trips none within (codes "cwd")) λ cwd cwd_h.
    and_then (required_member-kept runnable_kind-round_trips none within (codes "kind")) λ kind kind_h.
    let written =
    set_member-written (codes "kind") kind_h
    (set_member-written (codes "cwd") cwd_h
    (set_member-written (codes "args") args_h
    (set_member-written (codes "program") program_h
    (no_members-written _ _))))
    in
    at_last
    (record {
      again = rw (args_h.again, runnable_kind-of_text kind kind_h.again) refl;
      clean = written.clean;
      nests = omega (arith, written.nests);
    })
