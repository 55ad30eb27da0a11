use Rattle.std.proofs.Common.{arith}
use Rattle.graph_base.proofs.SpreadingLemmas.{along_more}
use Rattle.graph_base.proofs.spreading.count_run.Goals as goal

pub loop-here-preserved : goal.loop-here-preserved
loop-here-preserved c =
    along_more c.args.labels.now c.args.next.now c.args.first c.args.high c.loop-here.count c.loop-here.here c.requires.rising c.requires.top c.loop-here.invariant
    (omega (arith, c.loop-here-test.true))
