use Rattle.std.proofs.Common.{◌≡◌, ◌∷◌, ◌+◌, ◌∙◌, ap, arith, drop, rules}
use Rattle.std.proofs.lemmas.List.{drop_more}
use Rattle.cargo_msgs.specs.Diagnostic.{diagnostic_within}
use Rattle.cargo_msgs.proofs.Steps.{next_item}
use Rattle.cargo_msgs.proofs.diagnostic.+diagnostic.Goals as goal

pub read_children-loop-position-preserved : goal.read_children-loop-position-preserved
read_children-loop-position-preserved t c =
    let l = c.loop-position in
    let vs = c.args.values.now in
    let v = c.index-values-position.result in
    let step : drop l.position vs ≡ v ∷ drop (l.position + 1) vs = drop_more vs l.position v (omega arith) ∙ ap (λ y. y ∷ drop (l.position + 1) vs) (search rules) in
    rw c.in_ok-push.ensures.items (next_item (diagnostic_within c.args.left) vs l.position l.children.items v c.in_ok-below_item.field-0 l.invariant step
    (c.in_ok-below_item.ensures.exact _ c.read_diagnostic.ensures.exact))
