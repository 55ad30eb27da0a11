-- what is read of a metadata document is read again from what is written of it
use Rattle.std.specs.Prelude.{◌≡◌, ◌≤◌, List, max, cond, codes, refl, Option, Some, None, Ok}
use Rattle.std.proofs.Common.{arith}
use Rattle.serde_json.specs.Data.{members_depth, null}
use Rattle.json_fields.specs.Laws.Rows.{required_member-set_member, optional_member-set_member, default_member-set_member, required_member-set_unless_null, optional_member-set_unless_null, default_member-set_unless_null, optional_member-no_members, default_member-no_members, null-or_not}
use Rattle.json_fields.specs.Laws.RoundTrips.{AreWithin, and_then, any-round_trips, at_last, default_member-kept, list-round_trips, no_members-written, number-round_trips, optional_member-kept, required_member-kept, set_member-written, set_unless_null-written, table-round_trips, text-round_trips}
use Rattle.json_fields.specs.Outcome.{Reading}
use Rattle.json_fields.specs.RoundTrip.{RoundTrips}
use Rattle.json_fields.specs.Written.{is_null, list_data, option_data}
use Rattle.cargo_meta.specs.Metadata.{metadata_at, metadata_data, metadata_from, metadata_members}
use Rattle.cargo_meta_values.specs.Names.{package_id_data}
use Rattle.cargo_meta_values.specs.Resolve.{resolve_data-present}
use Rattle.cargo_meta_values.specs.declared.names.PackageId.{PackageId}
use Rattle.cargo_meta_values.specs.laws.Names.{package_id-round_trips}
use Rattle.cargo_meta.specs.laws.Package.{package-round_trips}
use Rattle.cargo_meta_values.specs.laws.Resolve.{resolve-round_trips}

-- no default members are left out, and read as none
none-or_not : (ids : Option (List PackageId))
    → cond {A = Reading (Option (List PackageId))} (is_null (option_data (list_data package_id_data) ids))
    (Ok None) (Ok ids)
    ≡ Ok ids
none-or_not None = refl
none-or_not (Some ids) = refl

-- a whole document
pub metadata-round_trips : RoundTrips metadata_at metadata_data 7
unfolding metadata_at metadata_data metadata_from metadata_members
metadata-round_trips = table-round_trips _ metadata_data 7 λ ms.
    let n = max 6 (members_depth ms) in
    let within : AreWithin n ms = record { within = omega arith } in
    let none : 0 ≤ n = omega arith in
    and_then
    (required_member-kept (list-round_trips _ _ _ package-round_trips) (omega arith) within (codes "packages"))
    λ packages packages_h.
    and_then
    (required_member-kept (list-round_trips _ _ _ package_id-round_trips) none within (codes "workspace_members"))
    λ workspace_members workspace_members_h.
    and_then
    (optional_member-kept (list-round_trips _ _ _ package_id-round_trips) none within (λ x. refl) (codes "workspace_default_members"))
    λ default_members default_members_h.
    and_then
    (optional_member-kept resolve-round_trips (omega arith) within resolve_data-present (codes "resolve"))
    λ resolve resolve_h.
    and_then (required_member-kept text-round_trips none within (codes "workspace_root"))
    λ workspace_root workspace_root_h.
    and_then (required_member-kept text-round_trips none within (codes "target_directory"))
    λ target_directory target_directory_h.
    and_then (optional_member-kept text-round_trips none within (λ x. refl) (codes "build_directory"))
    λ build_directory build_directory_h.
    and_then
    (default_member-kept any-round_trips none within (codes "metadata") null (record {
      again = refl;
      clean = λ _. refl;
      nests = omega arith;
    })) λ workspace_metadata workspace_metadata_h.
    and_then (required_member-kept number-round_trips none within (codes "version")) λ version version_h.
    let written =
    set_member-written (codes "version") version_h
    (set_unless_null-written (codes "metadata") workspace_metadata_h
    (set_member-written (codes "build_directory") build_directory_h
    (set_member-written (codes "target_directory") target_directory_h
    (set_member-written (codes "workspace_root") workspace_root_h
    (set_member-written (codes "resolve") resolve_h
    (set_unless_null-written (codes "workspace_default_members") default_members_h
    (set_member-written (codes "workspace_members") workspace_members_h
    (set_member-written (codes "packages") packages_h
    (no_members-written _ _)))))))))
    in
    at_last (record {
      again =
          simp
          (required_member-set_member, optional_member-set_member, default_member-set_member, required_member-set_unless_null, optional_member-set_unless_null, default_member-set_unless_null, optional_member-no_members, default_member-no_members, null-or_not)
          (rw (packages_h.again, workspace_members_h.again, default_members_h.again, resolve_h.again, build_directory_h.again, none-or_not default_members));
      clean = written.clean;
      nests = omega (arith, written.nests);
    })
