use Rattle.std.proofs.Common.{◌≡◌, filter, take}
use Rattle.input_db.specs.Queries.{is_marked}
use Rattle.input_db.proofs.queries.marked_among.Given as goal

abbrev pub invariant-loop-node : goal.invariant-loop-node
invariant-loop-node l = l.marked.items ≡ filter (is_marked l.marks) (take l.node-index l.nodes)
