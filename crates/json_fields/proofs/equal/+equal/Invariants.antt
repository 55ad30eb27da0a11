use Rattle.std.proofs.Common.{◌≡◌, drop}
use Rattle.std.specs.Slice.Iter.{iter_rest}
use Rattle.serde_json.specs.View.{items_view, members_view}
use Rattle.json_fields.specs.Equal.{items_eq, members_eq}
use Rattle.json_fields.proofs.equal.+equal.Given as goal

abbrev pub invariant-same_items-loop-x : goal.invariant-same_items-loop-x
invariant-same_items-loop-x l =
    (goal.iterator-same_items-loop-x).can_next l.rest ×
    (goal.iterator-same_items-loop-x).is_finite l.rest ×
    (items_eq (items_view l.a) (items_view l.b) ≡ items_eq (items_view (drop l.x-index l.a)) (items_view (iter_rest l.rest)))

abbrev pub invariant-same_members-loop-key : goal.invariant-same_members-loop-key
invariant-same_members-loop-key l =
    (goal.iterator-same_members-loop-key).can_next l.key-iterator ×
    (goal.iterator-same_members-loop-key).is_finite l.key-iterator ×
    (members_eq (members_view l.a.entries) (members_view l.b.entries) ≡ members_eq (members_view l.key-iterator) (members_view l.rest))
