use Rattle.std.proofs.Common.{◌+◌, arith}
use Rattle.graph_base.proofs.RankLemmas.{below_self}
use Rattle.graph_base.proofs.table.count_below.Goals as goal

pub overflow_cast-result : goal.overflow_cast-result
overflow_cast-result c = omega (arith, c.count_lower.ensures, below_self c.args.labels.now (c.args.node + 1) c.requires.node, c.requires.short)
