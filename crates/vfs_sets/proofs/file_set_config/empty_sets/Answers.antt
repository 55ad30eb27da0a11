use Rattle.std.proofs.Common.{◌∙◌, ◌∷◌, ◌++◌, [], ap}
use Rattle.vfs_sets.specs.FileSet.{FileSetContent}
use Rattle.vfs_sets.proofs.PartitionLemmas.{empty_more}
use Rattle.vfs_sets.proofs.file_set_config.empty_sets.Goals as goal

pub loop-number-preserved : goal.loop-number-preserved
loop-number-preserved c =
    empty_more c.loop-number.sets.items c.push.new.self.items c.loop-number.number c.loop-number.invariant
    (c.in_ok-push.ensures.items ∙ ap (λ (set : FileSetContent). c.loop-number.sets.items ++ set ∷ []) c.new.ensures)
