-- what is read of a release's document is read again from what is written of it
use Rattle.std.specs.Prelude.{◌≤◌, max, codes, false, refl}
use Rattle.std.proofs.Common.{arith}
use Rattle.serde_json.specs.Data.{members_depth, null}
use Rattle.json_fields.specs.Fields.{default_member, optional_member, required_member}
use Rattle.json_fields.specs.Laws.RoundTrips.{AreWithin, and_then, any-round_trips, at_last, default_member-kept, flag-round_trips, list_member-kept, map_member-kept, no_members-written, number-round_trips, optional_member-kept, required_member-kept, set_member-written, table-round_trips, text-round_trips}
use Rattle.json_fields.specs.Laws.TextForms.{bare-round_trips, requirement-round_trips, version-round_trips}
use Rattle.json_fields.specs.RoundTrip.{RoundTrips}
use Rattle.json_fields.specs.Written.{set_member}
use Rattle.cases_documents.specs.Release.{release_at, release_data}

-- a release is read again from what is written of it
pub release-round_trips : RoundTrips release_at release_data 2
unfolding release_at release_data required_member optional_member default_member set_member
release-round_trips = table-round_trips _ release_data 2 λ ms.
    let n = max 1 (members_depth ms) in
    let within : AreWithin n ms = record { within = omega arith } in
    let none : 0 ≤ n = omega arith in
    let some : 1 ≤ n = omega arith in
    and_then (required_member-kept text-round_trips none within (codes "name")) λ name name_h.
    and_then (required_member-kept version-round_trips none within (codes "version")) λ version version_h.
    and_then (required_member-kept number-round_trips none within (codes "size")) λ size size_h.
    and_then (optional_member-kept text-round_trips none within (λ x. refl) (codes "summary"))
    λ summary summary_h.
    and_then (optional_member-kept bare-round_trips none within (λ x. refl) (codes "rust-version"))
    λ rust_version rust_version_h.
    and_then
    (default_member-kept flag-round_trips none within (codes "yanked") false (record {
      again = refl;
      clean = λ _. refl;
      nests = omega arith;
    })) λ yanked yanked_h.
    and_then (list_member-kept text-round_trips none some within (codes "tags")) λ tags tags_h.
    and_then (map_member-kept requirement-round_trips none some within (codes "dependencies"))
    λ dependencies dependencies_h.
    and_then
    (default_member-kept any-round_trips none within (codes "extra") null (record {
      again = refl;
      clean = λ _. refl;
      nests = omega arith;
    })) λ extra extra_h.
    let written =
    set_member-written (codes "extra") extra_h
    (set_member-written (codes "dependencies") dependencies_h
    (set_member-written (codes "tags") tags_h
    (set_member-written (codes "yanked") yanked_h
    (set_member-written (codes "rust-version") rust_version_h
    (set_member-written (codes "summary") summary_h
    (set_member-written (codes "size") size_h
    (set_member-written (codes "version") version_h
    (set_member-written (codes "name") name_h (no_members-written _ _)))))))))
    in
    at_last (record {
      again =
          rw (version_h.again, summary_h.again, rust_version_h.again, tags_h.again, dependencies_h.again)
          refl;
      clean = written.clean;
      nests = omega (arith, written.nests);
    })
