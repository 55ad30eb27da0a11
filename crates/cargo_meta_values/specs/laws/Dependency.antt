-- what is read of a dependency's document is read again from what is written of it
use Rattle.std.specs.Prelude.{◌≤◌, max, codes, refl}
use Rattle.std.proofs.Common.{arith}
use Rattle.serde_json.specs.Data.{members_depth}
use Rattle.json_fields.specs.Fields.{optional_member, required_member}
use Rattle.json_fields.specs.Laws.RoundTrips.{AreWithin, and_then, at_last, flag-round_trips, list-round_trips, no_members-written, optional_member-kept, required_member-kept, set_member-written, table-round_trips, text-round_trips}
use Rattle.json_fields.specs.Laws.TextForms.{requirement-round_trips}
use Rattle.json_fields.specs.RoundTrip.{RoundTrips}
use Rattle.json_fields.specs.Written.{set_member}
use Rattle.cargo_meta_values.specs.Dependency.{dependency_at, dependency_data}
use Rattle.cargo_meta_values.specs.laws.Kinds.{dependency_kind-of_text, dependency_kind-round_trips}
use Rattle.cargo_meta_values.specs.laws.Names.{source-round_trips}

-- a dependency that a package declares
pub dependency-round_trips : RoundTrips dependency_at dependency_data 0
unfolding dependency_at dependency_data required_member optional_member set_member
dependency-round_trips = table-round_trips _ dependency_data 0 λ ms.
    let n = max 0 (members_depth ms) in
    let within : AreWithin n ms = record { within = omega arith } in
    let none : 0 ≤ n = omega arith in
    and_then (required_member-kept text-round_trips none within (codes "name")) λ name name_h.
    and_then (optional_member-kept source-round_trips none within (λ x. refl) (codes "source"))
    λ source source_h.
    and_then (required_member-kept requirement-round_trips none within (codes "req")) λ req req_h.
    and_then (required_member-kept dependency_kind-round_trips none within (codes "kind")) λ kind kind_h.
    and_then (required_member-kept flag-round_trips none within (codes "optional"))
    λ optional_flag optional_flag_h.
    and_then (required_member-kept flag-round_trips none within (codes "uses_default_features"))
    λ uses_default_features uses_default_features_h.
    and_then (required_member-kept (list-round_trips _ _ _ text-round_trips) none within (codes "features"))
    λ features features_h.
    and_then (optional_member-kept text-round_trips none within (λ x. refl) (codes "target"))
    λ target target_h.
    and_then (optional_member-kept text-round_trips none within (λ x. refl) (codes "rename"))
    λ rename rename_h.
    and_then (optional_member-kept text-round_trips none within (λ x. refl) (codes "registry"))
    λ registry registry_h.
    and_then (optional_member-kept text-round_trips none within (λ x. refl) (codes "path")) λ path path_h.
    let written =
    set_member-written (codes "path") path_h
    (set_member-written (codes "registry") registry_h
    (set_member-written (codes "rename") rename_h
    (set_member-written (codes "target") target_h
    (set_member-written (codes "features") features_h
    (set_member-written (codes "uses_default_features") uses_default_features_h
    (set_member-written (codes "optional") optional_flag_h
    (set_member-written (codes "kind") kind_h
    (set_member-written (codes "req") req_h
    (set_member-written (codes "source") source_h
    (set_member-written (codes "name") name_h
    (no_members-written _ _)))))))))))
    in
    at_last (record {
      again =
          rw
          (source_h.again, req_h.again, dependency_kind-of_text kind kind_h.again, features_h.again, target_h.again, rename_h.again, registry_h.again, path_h.again)
          refl;
      clean = written.clean;
      nests = omega (arith, written.nests);
    })
