use Rattle.std.proofs.Common.{arith}
use Rattle.vfs_sets.proofs.RootLemmas.{rest_more}
use Rattle.vfs_sets.proofs.roots.put_roots.Goals as goal

pub loop-root-preserved : goal.loop-root-preserved
loop-root-preserved c =
    rest_more c.args.numbers.now.entries c.loop-root.numbers c.insert.new.self c.args.roots.now c.root-item.result c.in_ok-bytes.bytes
    c.args.number c.loop-root.root-index
    c.loop-root.invariant (omega arith) c.root-item.is c.in_ok-bytes.ensures c.in_ok-insert.ensures.updates
