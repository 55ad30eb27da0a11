use Rattle.std.proofs.Common.{arith}
use Rattle.std.proofs.lemmas.Iterator.{items_from_collect}
use Rattle.vfs_sets.proofs.RootLemmas.{behind_all, gives_all, roots_listed}
use Rattle.vfs_sets.proofs.roots.roots.Goals as goal

pub returns : goal.returns
returns c =
    let given = c.into_iter.ensures.into_iter_gives in
    let all = behind_all c.args.sets.now c.loop-number.numbers.entries c.loop-number.number
    c.loop-number.invariant (omega arith) given.5 in
    roots_listed c.args.sets.now c.loop-number.numbers.entries c.collect.result all
    (items_from_collect _ c.collect.ensures.ran (gives_all _ _ given.0))
