-- what is read of a dependency's document is read again from what is written of it
use Rattle.std.specs.Prelude.{◌≡◌, ◌≤◌, ℕ, max, List, codes, IfOk, Ok, refl}
use Rattle.std.proofs.Common.{arith, Bool, true, false, cond, [], Err}
use Rattle.serde_json.specs.Data.{members_depth}
use Rattle.crate_graph_values.specs.Names.{has_dash}
use Rattle.json_fields.specs.Fields.{required_member}
use Rattle.json_fields.specs.Laws.RoundTrips.{AreWithin, and_then, at_last, no_members-written, number-round_trips, required_member-kept, set_member-written, table-round_trips}
use Rattle.json_fields.specs.Laws.TextForms.{text_form-round_trips}
use Rattle.json_fields.specs.Outcome.{Reading}
use Rattle.json_fields.specs.RoundTrip.{RoundTrips}
use Rattle.json_fields.specs.TextJson.{text_form_data}
use Rattle.json_fields.specs.Written.{set_member}
use Rattle.pm_json.specs.Dep.{crate_name_at, crate_name_of, dep_at, dep_data}

-- a name is read again from itself
pub crate_name-again : (text : List ℕ) → IfOk (crate_name_of text) (λ name. crate_name_of name ≡ Ok name)
unfolding crate_name_of
crate_name-again text = by_dash (has_dash text) refl
  where
    by_dash : (dash : Bool) → has_dash text ≡ dash
        → IfOk (cond {A = Reading (List ℕ)} dash (Err []) (Ok text))
        (λ name. cond {A = Reading (List ℕ)} (has_dash name) (Err []) (Ok name) ≡ Ok name)
    by_dash true is = tt
    by_dash false is = rw is refl

-- names of crates
pub crate_name-round_trips : RoundTrips crate_name_at (text_form_data (λ name. name)) 0
crate_name-round_trips = text_form-round_trips crate_name_of (λ name. name) crate_name-again

-- a dependency
pub dep-round_trips : RoundTrips dep_at dep_data 0
unfolding dep_at dep_data required_member set_member crate_name_of
dep-round_trips = table-round_trips _ dep_data 0 λ ms.
    let n = max 0 (members_depth ms) in
    let within : AreWithin n ms = record { within = omega arith } in
    let none : 0 ≤ n = omega arith in
    and_then (required_member-kept number-round_trips none within (codes "crate")) λ krate krate_h.
    and_then (required_member-kept crate_name-round_trips none within (codes "name")) λ name name_h.
    let written =
    set_member-written (codes "name") name_h
    (set_member-written (codes "crate") krate_h (no_members-written _ _)) in
    at_last
    (record { again = rw name_h.again refl; clean = written.clean; nests = omega (arith, written.nests) })
