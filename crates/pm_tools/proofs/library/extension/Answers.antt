use Rattle.std.proofs.Common.{◌≡◌, ◌<◌, ◌∙◌, length, arith, ap, sym}
use Rattle.base_text_paths.proofs.Dots.{before_at_cut, before_lacking, extension_at_cut, extension_none}
use Rattle.pm_tools.proofs.LibraryLemmas.{extension-last, extension-nameless, extension-up}
use Rattle.pm_tools.proofs.library.extension.Goals as goal

pub returns-in_err-name : goal.returns-in_err-name
returns-in_err-name c = rw c.from_residual.ensures (sym (extension-nameless _ (sym c.in_err-name.ensures)))

pub returns-then-eq : goal.returns-then-eq
returns-then-eq c = sym (extension-up _ _ (sym c.in_ok-name.ensures) (sym c.eq.ensures ∙ c.if-eq.true))

pub returns-in_err-stem : goal.returns-in_err-stem
returns-in_err-stem c =
    rw c.from_residual-in_err-stem.ensures (sym (extension-last _ _ (sym c.in_ok-name.ensures) (sym c.eq.ensures ∙ c.if-eq.false)
    ∙ extension_none _ (before_lacking _ c.in_err-stem.ensures)))

pub returns-then-is_empty : goal.returns-then-is_empty
returns-then-is_empty c =
    let none : length c.in_ok-stem.stem.now ≡ 0 = grind (arith, c.if-is_empty.ensures) in
    sym (extension-last _ _ (sym c.in_ok-name.ensures) (sym c.eq.ensures ∙ c.if-eq.false)
    ∙ extension_none _ (ap length (before_at_cut _ _ _ c.in_ok-stem.ensures) ∙ none))

pub returns-else-is_empty : goal.returns-else-is_empty
returns-else-is_empty c =
    let some : 0 < length c.in_ok-stem.stem.now = grind (arith, c.if-is_empty.ensures) in
    sym (extension-last _ _ (sym c.in_ok-name.ensures) (sym c.eq.ensures ∙ c.if-eq.false)
    ∙ extension_at_cut _ _ _ c.in_ok-stem.ensures some)
