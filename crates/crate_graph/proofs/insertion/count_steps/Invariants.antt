use Rattle.std.proofs.Common.{◌≡◌}
use Rattle.base_text_outside.specs.Causes.{raised_by}
use Rattle.crate_graph.proofs.insertion.count_steps.Given as goal

abbrev pub invariant-loop : goal.invariant-loop
invariant-loop g l = g.L.Ledger.count l.steps.ledger ≡ raised_by l.counter (g.L.Ledger.count l.fn.steps.ledger)
