use Rattle.std.proofs.Common.{length, refl, rules}
use Rattle.vfs_sets.specs.RootMaps.{longest_text}
use Rattle.vfs_sets.proofs.LengthLemmas.{longest_next}
use Rattle.vfs_sets.proofs.root_map.longest_root_of.Goals as goal

pub loop-root-preserved : goal.loop-root-preserved
loop-root-preserved c =
    longest_next longest_text (λ root. length root.text) refl (λ root roots. refl) c.args.roots.now c.root-item.result _ _ _
    c.loop-root.invariant c.loop-root-test.true c.root-item.is (search rules)
