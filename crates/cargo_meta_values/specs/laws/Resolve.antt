-- what is read of a resolved graph's document is read again from what is written of it
use Rattle.std.specs.Prelude.{◌≤◌, max, codes, refl}
use Rattle.std.proofs.Common.{arith}
use Rattle.serde_json.specs.Data.{members_depth}
use Rattle.json_fields.specs.Fields.{default_member, optional_member, required_member}
use Rattle.json_fields.specs.Laws.RoundTrips.{AreWithin, and_then, at_last, list-round_trips, list_member-kept, no_members-written, optional_member-kept, required_member-kept, set_member-written, table-round_trips, text-round_trips}
use Rattle.json_fields.specs.RoundTrip.{RoundTrips}
use Rattle.json_fields.specs.Written.{set_member}
use Rattle.cargo_meta_values.specs.Resolve.{dep_kind_at, dep_kind_data, node_at, node_data, node_dep_at, node_dep_data, resolve_at, resolve_data}
use Rattle.cargo_meta_values.specs.laws.Kinds.{dependency_kind-of_text, dependency_kind-round_trips}
use Rattle.cargo_meta_values.specs.laws.Names.{package_id-round_trips}

-- the kind of a resolved dependency
pub dep_kind-round_trips : RoundTrips dep_kind_at dep_kind_data 0
unfolding dep_kind_at dep_kind_data required_member optional_member set_member
dep_kind-round_trips = table-round_trips _ dep_kind_data 0 λ ms.
    let n = max 0 (members_depth ms) in
    let within : AreWithin n ms = record { within = omega arith } in
    let none : 0 ≤ n = omega arith in
    and_then (required_member-kept dependency_kind-round_trips none within (codes "kind")) λ kind kind_h.
    and_then (optional_member-kept text-round_trips none within (λ x. refl) (codes "target"))
    λ target target_h.
    let written =
    set_member-written (codes "target") target_h
    (set_member-written (codes "kind") kind_h
    (no_members-written _ _))
    in
    at_last (record {
      again = rw (dependency_kind-of_text kind kind_h.again, target_h.again) refl;
      clean = written.clean;
      nests = omega (arith, written.nests);
    })

-- a resolved dependency
pub node_dep-round_trips : RoundTrips node_dep_at node_dep_data 2
unfolding node_dep_at node_dep_data required_member default_member set_member
node_dep-round_trips = table-round_trips _ node_dep_data 2 λ ms.
    let n = max 1 (members_depth ms) in
    let within : AreWithin n ms = record { within = omega arith } in
    let none : 0 ≤ n = omega arith in
    let some : 1 ≤ n = omega arith in
    and_then (required_member-kept text-round_trips none within (codes "name")) λ name name_h.
    and_then (required_member-kept package_id-round_trips none within (codes "pkg")) λ pkg pkg_h.
    and_then (list_member-kept dep_kind-round_trips none some within (codes "dep_kinds"))
    λ dep_kinds dep_kinds_h.
    let written =
    set_member-written (codes "dep_kinds") dep_kinds_h
    (set_member-written (codes "pkg") pkg_h
    (set_member-written (codes "name") name_h
    (no_members-written _ _)))
    in
    at_last (record {
      again = rw (dep_kinds_h.again) refl;
      clean = written.clean;
      nests = omega (arith, written.nests);
    })

-- a node of the resolved graph
pub node-round_trips : RoundTrips node_at node_data 4
unfolding node_at node_data required_member default_member set_member
node-round_trips = table-round_trips _ node_data 4 λ ms.
    let n = max 3 (members_depth ms) in
    let within : AreWithin n ms = record { within = omega arith } in
    let none : 0 ≤ n = omega arith in
    let some : 1 ≤ n = omega arith in
    and_then (required_member-kept package_id-round_trips none within (codes "id")) λ id id_h.
    and_then (list_member-kept node_dep-round_trips (omega arith) some within (codes "deps")) λ deps deps_h.
    and_then
    (required_member-kept (list-round_trips _ _ _ package_id-round_trips) none within (codes "dependencies"))
    λ dependencies dependencies_h.
    and_then (list_member-kept text-round_trips none some within (codes "features")) λ features features_h.
    let written =
    set_member-written (codes "features") features_h
    (set_member-written (codes "dependencies") dependencies_h
    (set_member-written (codes "deps") deps_h
    (set_member-written (codes "id") id_h
    (no_members-written _ _))))
    in
    at_last (record {
      again = rw (deps_h.again, dependencies_h.again, features_h.again) refl;
      clean = written.clean;
      nests = omega (arith, written.nests);
    })

-- the resolved graph
pub resolve-round_trips : RoundTrips resolve_at resolve_data 6
unfolding resolve_at resolve_data required_member optional_member set_member
resolve-round_trips = table-round_trips _ resolve_data 6 λ ms.
    let n = max 5 (members_depth ms) in
    let within : AreWithin n ms = record { within = omega arith } in
    let none : 0 ≤ n = omega arith in
    and_then
    (required_member-kept (list-round_trips _ _ _ node-round_trips) (omega arith) within (codes "nodes"))
    λ nodes nodes_h.
    and_then (optional_member-kept package_id-round_trips none within (λ x. refl) (codes "root"))
    λ root root_h.
    let written =
    set_member-written (codes "root") root_h
    (set_member-written (codes "nodes") nodes_h
    (no_members-written _ _))
    in
    at_last (record {
      again = rw (nodes_h.again, root_h.again) refl;
      clean = written.clean;
      nests = omega (arith, written.nests);
    })
