use Rattle.std.proofs.Common.{◌<◌, arith, length}
use Rattle.graph_base.proofs.BlockLemmas.{above_more, last_more}
use Rattle.graph_base.proofs.table.LabelTable.move_all_above.Goals as goal

pub loop-place-preserved : goal.loop-place-preserved
loop-place-preserved c =
    let more : c.loop-place.place < length c.args.nodes.now = omega arith in
    record {
      stand = above_more c.args.mark c.args.nodes.now c.args.self.now c.loop-place.self c.move_above.new.self c.loop-place.place c.loop-place.last c.requires.fit more c.loop-place.invariant.stand
          c.loop-place.invariant.last c.move_above.ensures.moved;
      last = last_more c.args.mark c.args.nodes.now c.loop-place.place;
      ranks = c.move_above.ensures.ranks;
    }
