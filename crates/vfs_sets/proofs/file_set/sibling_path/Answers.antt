use Rattle.std.proofs.Common.{◌∙◌, ap}
use Rattle.vfs_core.specs.VfsPath.{PathContent}
use Rattle.vfs_sets.specs.FileSet.{sibling_path}
use Rattle.vfs_sets.proofs.SiblingLemmas.{beside_is}
use Rattle.vfs_sets.proofs.file_set.sibling_path.Goals as goal

pub returns : goal.returns
returns c =
    beside_is c.in_ok-base.base c.pop.new.self c.args.tail.now _
    c.pop.ensures.path c.pop.ensures.virtual_path c.in_ok-join.ensures.real c.in_ok-join.ensures.virtual_path
    ∙ ap (λ (p : PathContent). sibling_path p c.args.tail.now) c.in_ok-base.ensures
