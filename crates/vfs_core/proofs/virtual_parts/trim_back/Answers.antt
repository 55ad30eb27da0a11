use Rattle.std.proofs.Common.{◌∙◌, rules, sym}
use Rattle.vfs_core.proofs.TrimLemmas.{back_alone, back_here, back_none, back_past}
use Rattle.vfs_core.proofs.virtual_parts.trim_back.Goals as goal

pub returns-then-is_component : goal.returns-then-is_component
returns-then-is_component c =
    sym (back_here _ _ _ c.in-Some.ensures (sym c.is_component.ensures ∙ c.if-is_component.true)) ∙ c.loop-more.invariant.1

pub loop-more-preserved : goal.loop-more-preserved
loop-more-preserved c =
    (search rules, sym (back_past _ _ _ c.in-Some.ensures (sym c.is_component.ensures ∙ c.if-is_component.false)) ∙ c.loop-more.invariant.1)

pub returns-then-is_component-2 : goal.returns-then-is_component-2
returns-then-is_component-2 c =
    sym (back_alone _ c.in_default.ensures (sym c.is_component-2.ensures ∙ c.if-is_component-2.true)) ∙ c.loop-more.invariant.1

pub returns-else-is_component-2 : goal.returns-else-is_component-2
returns-else-is_component-2 c =
    sym (back_none _ c.in_default.ensures (sym c.is_component-2.ensures ∙ c.if-is_component-2.false)) ∙ c.loop-more.invariant.1
