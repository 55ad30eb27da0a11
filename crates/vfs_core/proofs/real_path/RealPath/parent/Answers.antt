use Rattle.std.proofs.Common.{◌∙◌, ap, List, ℕ}
use Rattle.base_text_paths.specs.AbsPath.{abs_text}
use Rattle.base_text_paths.specs.Paths.{components, without_last}
use Rattle.vfs_core.specs.RealPath.{IsNormal}
use Rattle.vfs_core.proofs.NormalLemmas.{normal_above}
use Rattle.vfs_core.proofs.real_path.RealPath.parent.Goals as goal

pub invariant_of-result : goal.invariant_of-result
invariant_of-result c =
    let above = abs_text c.in-Some.above in
    let normal : IsNormal above =
    normal_above c.self.inside.path above c.self.invariant c.in-Some.above.clean
    (c.in-Some.ensures.components
    ∙ ap (λ (t : List ℕ). without_last (components t)) c.as_path.ensures) in
    rw c.in_ok-path-in-Some.ensures normal
