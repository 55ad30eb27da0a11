use Rattle.std.proofs.Common.{ap, ◌∙◌}
use Rattle.base_text_paths.specs.Paths.{components}
use Rattle.base_text_paths.proofs.Names.{clean_text, components_are_names, components-path_text}
use Rattle.base_text_paths.proofs.paths.abs_path_buf.AbsPathBuf.of_slashed.Goals as goal

pub invariant_of-result : goal.invariant_of-result
invariant_of-result c = clean_text _ _ c.in_ok-text.ensures (components_are_names _)

pub returns-clause-same_components : goal.returns-clause-same_components
returns-clause-same_components c = ap components c.in_ok-text.ensures ∙ components-path_text _ (components_are_names _)
