use Rattle.std.proofs.Common.{◌∙◌, ap}
use Rattle.base_text_outside.specs.Causes.{next_count}
use Rattle.crate_graph.proofs.VisitLemmas.{raised_more}
use Rattle.crate_graph.proofs.insertion.count_steps.Goals as goal

pub loop-preserved : goal.loop-preserved
loop-preserved g c = c.tick.ensures ∙ ap next_count c.loop.invariant ∙ raised_more c.loop.counter (g.L.Ledger.count c.args.steps.now.ledger)
