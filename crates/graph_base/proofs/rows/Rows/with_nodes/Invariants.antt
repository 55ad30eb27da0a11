use Rattle.std.proofs.Common.{◌≡◌, []}
use Rattle.std.specs.Prelude.{replicate}
use Rattle.graph_base.specs.Reversed.{target_rows}
use Rattle.graph_base.proofs.rows.Rows.with_nodes.Given as goal

abbrev pub invariant-loop : goal.invariant-loop
invariant-loop l = target_rows l.rows.items ≡ replicate l.counter []
