use Rattle.std.proofs.Common.{◌≡◌, ◌<◌, length, arith, sym, ap, ◌∙◌}
use Rattle.base_text_paths.proofs.Dots.{before_at_cut, before_lacking, extension_at_cut, extension_none}
use Rattle.base_text_paths.proofs.paths.file_name.extension_of.Goals as goal

pub returns-in_err-stem : goal.returns-in_err-stem
returns-in_err-stem c = rw c.from_residual.ensures (sym (extension_none _ (before_lacking _ c.in_err-stem.ensures)))

pub returns-then-is_empty : goal.returns-then-is_empty
returns-then-is_empty c =
    let none : length c.in_ok-stem.stem.now ≡ 0 = grind (arith, c.if-is_empty.ensures) in
    sym (extension_none _ (ap length (before_at_cut _ _ _ c.in_ok-stem.ensures) ∙ none))

pub returns-else-is_empty : goal.returns-else-is_empty
returns-else-is_empty c =
    let some : 0 < length c.in_ok-stem.stem.now = grind (arith, c.if-is_empty.ensures) in
    sym (extension_at_cut _ _ _ c.in_ok-stem.ensures some)
