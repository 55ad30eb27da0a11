use Rattle.std.proofs.Common.{◌≡◌, ◌++◌, drop}
use Rattle.serde_json.specs.View.{items_view}
use Rattle.json_fields.specs.Fields.{items_from, under}
use Rattle.json_fields.proofs.values.read_items.Given as goal

abbrev pub invariant-loop-position : goal.invariant-loop-position
invariant-loop-position g l = items_from g.T.ReadJson.reads 0 (items_view l.values) ≡ under (λ xs. l.items.items ++ xs) (items_from g.T.ReadJson.reads l.position (items_view (drop l.position l.values)))
