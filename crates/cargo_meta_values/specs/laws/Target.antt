-- what is read of a target's document is read again from what is written of it
use Rattle.std.specs.Prelude.{◌≤◌, max, codes, true, refl}
use Rattle.std.proofs.Common.{arith}
use Rattle.serde_json.specs.Data.{members_depth}
use Rattle.json_fields.specs.Fields.{default_member, required_member}
use Rattle.json_fields.specs.Laws.RoundTrips.{AreWithin, and_then, at_last, default_member-kept, flag-round_trips, list-round_trips, list_member-kept, no_members-written, required_member-kept, set_member-written, table-round_trips, text-round_trips}
use Rattle.json_fields.specs.RoundTrip.{RoundTrips}
use Rattle.json_fields.specs.Written.{set_member}
use Rattle.cargo_meta_values.specs.Kinds.{edition_of}
use Rattle.cargo_meta_values.specs.Target.{target_at, target_data}
use Rattle.cargo_meta_values.specs.declared.kinds.Edition.TheVariants.{E2015}
use Rattle.cargo_meta_values.specs.laws.Kinds.{crate_type-round_trips, edition-round_trips, target_kind-round_trips}

-- a target of a package
pub target-round_trips : RoundTrips target_at target_data 2
unfolding target_at target_data required_member default_member set_member edition_of
target-round_trips = table-round_trips _ target_data 2 λ ms.
    let n = max 1 (members_depth ms) in
    let within : AreWithin n ms = record { within = omega arith } in
    let none : 0 ≤ n = omega arith in
    let some : 1 ≤ n = omega arith in
    and_then (required_member-kept text-round_trips none within (codes "name")) λ name name_h.
    and_then
    (required_member-kept (list-round_trips _ _ _ target_kind-round_trips) none within (codes "kind"))
    λ kind kind_h.
    and_then (list_member-kept crate_type-round_trips none some within (codes "crate_types"))
    λ crate_types crate_types_h.
    and_then (list_member-kept text-round_trips none some within (codes "required-features"))
    λ required_features required_features_h.
    and_then (required_member-kept text-round_trips none within (codes "src_path")) λ src_path src_path_h.
    and_then
    (default_member-kept edition-round_trips none within (codes "edition") E2015 (record {
      again = refl;
      clean = λ _. refl;
      nests = omega arith;
    })) λ edition edition_h.
    and_then
    (default_member-kept flag-round_trips none within (codes "doctest") true (record {
      again = refl;
      clean = λ _. refl;
      nests = omega arith;
    })) λ doctest doctest_h.
    and_then
    (default_member-kept flag-round_trips none within (codes "test") true (record {
      again = refl;
      clean = λ _. refl;
      nests = omega arith;
    })) λ test test_h.
    and_then
    (default_member-kept flag-round_trips none within (codes "doc") true (record {
      again = refl;
      clean = λ _. refl;
      nests = omega arith;
    })) λ doc doc_h.
    let written =
    set_member-written (codes "doc") doc_h
    (set_member-written (codes "test") test_h
    (set_member-written (codes "doctest") doctest_h
    (set_member-written (codes "edition") edition_h
    (set_member-written (codes "src_path") src_path_h
    (set_member-written (codes "required-features") required_features_h
    (set_member-written (codes "crate_types") crate_types_h
    (set_member-written (codes "kind") kind_h
    (set_member-written (codes "name") name_h
    (no_members-written _ _)))))))))
    in
    at_last (record {
      again = rw (kind_h.again, crate_types_h.again, required_features_h.again, edition_h.again) refl;
      clean = written.clean;
      nests = omega (arith, written.nests);
    })
