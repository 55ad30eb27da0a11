use Rattle.std.proofs.Common.{◌<◌, arith, length}
use Rattle.graph_base.proofs.BlockLemmas.{below_more}
use Rattle.graph_base.proofs.table.LabelTable.move_all_below.Goals as goal

pub loop-place-preserved : goal.loop-place-preserved
loop-place-preserved c =
    let more : c.loop-place.place < length c.args.nodes.now = omega arith in
    record {
      stand = below_more c.args.mark c.args.nodes.now c.args.self.now c.loop-place.self c.move_below.new.self c.loop-place.place c.requires.fit more c.loop-place.invariant.stand
          c.move_below.ensures.moved;
      ranks = c.move_below.ensures.ranks;
    }
