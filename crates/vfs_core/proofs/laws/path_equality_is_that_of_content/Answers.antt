use Rattle.std.proofs.Common.{sym, ap, ◌∙◌}
use Rattle.vfs_core.specs.VfsPath.{vfs_path_eq}
use Rattle.vfs_core.specs.VfsPathOrder.{vfs_path_eq-same, vfs_path_equiv}
use Rattle.vfs_core.proofs.laws.path_equality_is_that_of_content.Goals as goal

pub returns : goal.returns
returns c = λ x y. (
  vfs_path_eq-same x y,
  λ same. ap (vfs_path_eq x) (sym same) ∙ vfs_path_equiv.refl x,
)
