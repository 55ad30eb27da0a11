use Rattle.std.proofs.Common.{◌≡◌, ◌++◌}
use Rattle.input_db.proofs.lowering.finished.FinishedCrates.given_crates.Given as goal

abbrev pub invariant-loop-krate : goal.invariant-loop-krate
invariant-loop-krate l = l.given.items ++ l.krate-iterator ≡ l.self.given
