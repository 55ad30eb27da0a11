use Rattle.std.proofs.Common.{◌≡◌, ◌++◌, List, ℕ}
use Rattle.serde_json.specs.View.{members_view}
use Rattle.base_values.specs.ByText.{text_entries}
use Rattle.json_fields.specs.Written.{entries_data}
use Rattle.json_fields.proofs.maps.ByTextJson.write.Given as goal

abbrev pub invariant-loop-key : goal.invariant-loop-key
invariant-loop-key g l =
    (done : List (List ℕ × g.row.T.Denot)) × (done ++ text_entries l.key-iterator ≡ l.self) × (members_view l.fields.entries ≡ entries_data g.T.Json.writes done)
