use Rattle.std.proofs.Common.{◌∙◌, ap}
use Rattle.crate_graph.proofs.SuborderLemmas.{numbered_more, numbered_skip}
use Rattle.crate_graph.proofs.suborder.renumber.Goals as goal
use Rattle.crate_graph.proofs.suborder.renumber.Goals.{in-Some+in_ok-push, in_default}

pub loop-node-preserved : goal.loop-node-preserved
loop-node-preserved c = elim c.match-numbers-node.branch [
  | in-Some+in_ok-push w ↦
      ap (λ v. v.items) w.kept-is ∙ w.in_ok-push.ensures.items
      ∙ numbered_more c.args.numbers.now c.args.nodes.now c.loop-node.kept.items c.loop-node.node-index _ c.loop-node-test.true w.in-Some.is c.loop-node.invariant
  | in_default w ↦
      ap (λ v. v.items) w.kept-is
      ∙ numbered_skip c.args.numbers.now c.args.nodes.now c.loop-node.kept.items c.loop-node.node-index c.loop-node-test.true w.in_default.is c.loop-node.invariant
]
