use Rattle.std.proofs.Common.{◌≡◌, ◌<◌, length, arith, sym, ap, ◌∙◌}
use Rattle.base_text_paths.proofs.Dots.{before_at_cut, before_lacking, stem_at_cut, stem_whole}
use Rattle.base_text_paths.proofs.paths.file_name.stem_of.Goals as goal

pub returns-in-Some : goal.returns-in-Some
returns-in-Some c =
    let some : 0 < length c.in-Some.stem.now = grind (arith, c.if-not-is_empty.ensures) in
    sym (stem_at_cut _ _ _ c.in-Some.ensures some)

pub returns-in_default : goal.returns-in_default
returns-in_default c =
    let none : length c.in-Some.stem.now ≡ 0 = grind (arith, c.if-not-is_empty.ensures) in
    sym (stem_whole _ (ap length (before_at_cut _ _ _ c.in-Some.ensures) ∙ none))

pub returns-in_default-2 : goal.returns-in_default-2
returns-in_default-2 c = sym (stem_whole _ (before_lacking _ (rw c.in_default.is at c.split_last.ensures)))
