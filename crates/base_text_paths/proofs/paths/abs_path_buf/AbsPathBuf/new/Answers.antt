use Rattle.std.proofs.Common.{ap, ◌∙◌}
use Rattle.base_text_paths.specs.Paths.{path_text}
use Rattle.base_text_paths.proofs.Names.{empty_slashed, row_from_none, row_slashed}
use Rattle.base_text_paths.proofs.paths.abs_path_buf.AbsPathBuf.new.Goals as goal

pub push_components-requires : goal.push_components-requires
push_components-requires c = empty_slashed _ c.new-slashed.ensures.bytes

pub of_slashed-requires : goal.of_slashed-requires
of_slashed-requires c = row_slashed _ _ c.in_ok-push_components.ensures

pub returns-clause-ok : goal.returns-clause-ok
returns-clause-ok c =
    let row = row_from_none _ _ _ c.new-slashed.ensures.bytes c.in_ok-push_components.ensures in
    c.in_ok-of_slashed.ensures.ok ∙ ap path_text row.components_are

pub returns-clause-same_components : goal.returns-clause-same_components
returns-clause-same_components c =
    let row = row_from_none _ _ _ c.new-slashed.ensures.bytes c.in_ok-push_components.ensures in
    c.in_ok-of_slashed.ensures.same_components ∙ row.components_are
