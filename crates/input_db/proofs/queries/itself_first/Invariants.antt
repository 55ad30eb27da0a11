use Rattle.std.proofs.Common.{◌≡◌, ◌∷◌, take}
use Rattle.input_db.specs.Queries.{others}
use Rattle.input_db.proofs.queries.itself_first.Given as goal

abbrev pub invariant-loop-node : goal.invariant-loop-node
invariant-loop-node l = l.crates.items ≡ l.krate ∷ others l.krate (take l.node-index l.reached)
