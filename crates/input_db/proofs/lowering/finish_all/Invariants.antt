use Rattle.std.proofs.Common.{◌≡◌}
use Rattle.input_db.specs.FinishSteps.{Progress}
use Rattle.input_db.proofs.Run.{before}
use Rattle.input_db.proofs.lowering.finish_all.Given as goal

abbrev pub invariant-loop-number : goal.invariant-loop-number
invariant-loop-number g l = ◌≡◌ {A = Progress} (record { db = g.D.SourceDatabase.seen l.db; finished = l.finished })
    (before l.graph.crates (g.D.SourceDatabase.seen l.initial.db) l.order l.number-index)
