use Rattle.std.proofs.Common.{ap, ◌∙◌}
use Rattle.base_text_paths.specs.Paths.{path_text}
use Rattle.base_text_paths.proofs.Joining.{row_joined}
use Rattle.base_text_paths.proofs.paths.abs_path.AbsPath.join.Goals as goal

pub returns-clause-ok : goal.returns-clause-ok
returns-clause-ok c =
    let row = row_joined _ _ _ _ c.in_ok-slashed.ensures c.in_ok-push_components.ensures in
    c.in_ok-of_slashed.ensures.ok ∙ ap path_text row.components_are

pub returns-clause-same_components : goal.returns-clause-same_components
returns-clause-same_components c =
    let row = row_joined _ _ _ _ c.in_ok-slashed.ensures c.in_ok-push_components.ensures in
    c.in_ok-of_slashed.ensures.same_components ∙ row.components_are
