use Rattle.vfs_sets.proofs.RowLemmas.{taken_more}
use Rattle.vfs_sets.proofs.file_maps.FileMaps.of_rows.Goals as goal

pub loop-file-preserved : goal.loop-file-preserved
loop-file-preserved c =
    taken_more _ _ c.loop-file-item.result c.in_ok-path.path _ _ c.loop-file-test.true c.loop-file-item.is c.in_ok-path.ensures
    c.loop-file.invariant c.in_ok-insert.ensures.ok
