use Rattle.std.proofs.Common.{◌∙◌, arith, length-set, true}
use Rattle.crate_graph.proofs.SuborderLemmas.{marks_more, named_item}
use Rattle.crate_graph.proofs.suborder.marks_of.Goals as goal

pub index_mut-requires : goal.index_mut-requires
index_mut-requires c =
    omega (arith, c.requires _ (named_item c.args.keep.now c.loop-node.node-index c.loop-node-test.true), c.loop-node.invariant.long)

pub loop-node-preserved : goal.loop-node-preserved
loop-node-preserved c =
    let below = c.requires _ (named_item c.args.keep.now c.loop-node.node-index c.loop-node-test.true) in
    record {
      long = length-set c.loop-node.marks.items _ true ∙ c.loop-node.invariant.long;
      named = marks_more c.args.keep.now c.loop-node.marks.items c.loop-node.node-index c.args.count c.loop-node-test.true below c.loop-node.invariant.long c.loop-node.invariant.named;
    }
