use Rattle.std.proofs.Common.{◌∙◌, sym, ap}
use Rattle.std.specs.Option.{option_copied}
use Rattle.base_text_paths.specs.AbsPath.{rel_text}
use Rattle.base_text.specs.MemoryTree.{first_component}
use Rattle.base_text.proofs.Fronts.{entry_name-apart, entry_name-first}
use Rattle.base_text.proofs.memory_tree.entry_name.Goals as goal

pub returns-in_err-below : goal.returns-in_err-below
returns-in_err-below c = ap option_copied c.from_residual.ensures ∙ sym (entry_name-apart _ _ (sym c.in_err-below.ensures.text))

pub returns : goal.returns
returns c =
    c.first_component.ensures ∙ ap first_component c.as_str.ensures
    ∙ entry_name-first _ _ (rel_text c.in_ok-below.below) (rel_text c.in_ok-below.below) (sym c.in_ok-below.ensures.text) c.in_ok-below.ensures.components
