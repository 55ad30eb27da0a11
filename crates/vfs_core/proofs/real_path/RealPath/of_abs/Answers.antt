use Rattle.base_text_paths.specs.AbsPath.{abs_text}
use Rattle.base_text_paths.specs.Paths.{components}
use Rattle.vfs_core.proofs.NormalLemmas.{normal_from}
use Rattle.vfs_core.proofs.real_path.RealPath.of_abs.Goals as goal

pub invariant_of-result : goal.invariant_of-result
invariant_of-result c =
    normal_from _ (components (abs_text c.as_path.result)) c.in_ok-path.ensures.ok c.in_ok-path.ensures.same_components
