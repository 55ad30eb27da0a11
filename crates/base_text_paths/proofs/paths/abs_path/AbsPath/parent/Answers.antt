use Rattle.std.proofs.Common.{◌∙◌, sym}
use Rattle.base_text_paths.proofs.Parents.{components-parent, parent_cut, parent_is_clean, parent_text-none, parent_text-some}
use Rattle.base_text_paths.proofs.Resolving.{resolved_above}
use Rattle.base_text_paths.specs.AbsPath.{abs_text}
use Rattle.base_text_paths.proofs.paths.abs_path.AbsPath.parent.Goals as goal

pub returns-in_err-end-clause-text : goal.returns-in_err-end-clause-text
returns-in_err-end-clause-text c =
    let none = rw c.as_str-path.ensures.text at c.in_err-end.ensures in
    rw c.from_residual.ensures (sym (parent_text-none _ none))

pub new-requires : goal.new-requires
new-requires c = parent_is_clean _ _ (parent_cut _ _ _ c.in_ok-end.ensures c.range.ensures.value)

pub returns-clause-text : goal.returns-clause-text
returns-clause-text c =
    let found = rw c.as_str-path.ensures.text at c.in_ok-end.ensures in
    let cut = rw c.as_str-path.ensures.text at c.range.ensures.value in
    sym (parent_text-some _ _ found.some (c.new.ensures ∙ parent_cut _ _ _ found cut))

pub returns-clause-components : goal.returns-clause-components
returns-clause-components c =
    let found = rw c.as_str-path.ensures.text at c.in_ok-end.ensures in
    let cut = rw c.as_str-path.ensures.text at c.range.ensures.value in
    components-parent _ _ (c.new.ensures ∙ parent_cut _ _ _ found cut)

pub returns-clause-resolved : goal.returns-clause-resolved
returns-clause-resolved c done =
    let found = rw c.as_str-path.ensures.text at c.in_ok-end.ensures in
    let cut = rw c.as_str-path.ensures.text at c.range.ensures.value in
    resolved_above (abs_text c.args.self) _ done (components-parent _ _ (c.new.ensures ∙ parent_cut _ _ _ found cut))
