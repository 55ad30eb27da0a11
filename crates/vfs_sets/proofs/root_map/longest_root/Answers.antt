use Rattle.std.proofs.Common.{refl, rules}
use Rattle.vfs_sets.specs.RootMaps.{longest_text, longest_text_of_all}
use Rattle.vfs_sets.proofs.LengthLemmas.{longest_next}
use Rattle.vfs_sets.proofs.root_map.longest_root.Goals as goal

pub loop-roots-preserved : goal.loop-roots-preserved
loop-roots-preserved c =
    longest_next longest_text_of_all longest_text refl (λ roots sets. refl) c.args.sets.now c.roots-item.result _ _ _
    c.loop-roots.invariant c.loop-roots-test.true c.roots-item.is (search rules)
