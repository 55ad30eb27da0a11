-- What becomes of a table when an identity's crate is given an input.
use Rattle.std.proofs.Common.{◌≡◌, ◌≤◌, inl, inr, true, None, arith, is_some, length, refl, sym, ap, ◌∙◌, true≢false}
use Rattle.std.specs.Map.{keys_of}
use Rattle.std.proofs.lemmas.Bool.{cases_lt}
use Rattle.input_db.specs.Identity.{PutsCrate, Table, crate_for, crate_in, unique_eq, with_entry}
use Rattle.input_db.specs.declared.crate_input.CrateInput.{CrateInput}
use Rattle.input_db.specs.declared.crate_input.UniqueCrateData.{UniqueCrateData}
use Rattle.input_db.proofs.PlaceLemmas.{length_keys, of_place, place_kept, place_of, place_put, value_kept, value_put}

-- an identity that has no crate is given one greater than all before
new_greater : (table : Table) (unique : UniqueCrateData) → crate_in table unique ≡ None → length table ≤ crate_for table unique
new_greater table unique none = elim (cases_lt (crate_for table unique) (length (keys_of table))) [
  | inl within ↦
      absurd (true≢false (sym (ap is_some (place_of (unique_eq unique) (keys_of table) (crate_for table unique) refl within)) ∙ ap is_some none))
  | inr past ↦ omega (arith, past, length_keys table)
]

-- an identity's crate is given an input
pub puts : (table : Table) (unique : UniqueCrateData) (input : CrateInput) → unique_eq unique unique ≡ true
    → PutsCrate table (with_entry table unique input) unique input (crate_for table unique)
puts table unique input same = record {
  named = place_put unique_eq unique input same table;
  had = λ n is. (of_place (unique_eq unique) (keys_of table) n is).0;
  greater = new_greater table unique;
  held = value_put unique_eq unique input table;
  identities = λ other n is. place_kept unique_eq unique input (unique_eq other) table n is;
  inputs = λ other differs. value_kept unique_eq unique input table other differs;
}
