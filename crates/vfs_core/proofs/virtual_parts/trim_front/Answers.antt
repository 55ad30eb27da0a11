use Rattle.std.proofs.Common.{◌∙◌, lit<, rules, sym}
use Rattle.vfs_core.proofs.TrimLemmas.{front_alone, front_here, front_none, front_past, lacks_slash, IsFirstCut}
use Rattle.vfs_core.proofs.virtual_parts.trim_front.Goals as goal

pub returns-then-is_component : goal.returns-then-is_component
returns-then-is_component c =
    let cut = c.in-Some.ensures.byte (lit< tt) (λ w o h. h) in
    let first : IsFirstCut c.loop-part.rest.now c.in-Some.part.now c.in-Some.more.now =
    record { before = cut.0; after = cut.1; within = cut.2 } in
    sym (front_here _ _ _ first (sym c.is_component.ensures ∙ c.if-is_component.true)) ∙ c.loop-part.invariant.1

pub loop-part-preserved : goal.loop-part-preserved
loop-part-preserved c =
    let cut = c.in-Some.ensures.byte (lit< tt) (λ w o h. h) in
    let first : IsFirstCut c.loop-part.rest.now c.in-Some.part.now c.in-Some.more.now =
    record { before = cut.0; after = cut.1; within = cut.2 } in
    (search rules, sym (front_past _ _ _ first (sym c.is_component.ensures ∙ c.if-is_component.false)) ∙ c.loop-part.invariant.1)

pub returns-then-is_component-2 : goal.returns-then-is_component-2
returns-then-is_component-2 c =
    sym (front_alone _ (lacks_slash _ c.in_default.ensures.cases) (sym c.is_component-2.ensures ∙ c.if-is_component-2.true))
    ∙ c.loop-part.invariant.1

pub returns-else-is_component-2 : goal.returns-else-is_component-2
returns-else-is_component-2 c =
    sym (front_none _ (lacks_slash _ c.in_default.ensures.cases) (sym c.is_component-2.ensures ∙ c.if-is_component-2.false))
    ∙ c.loop-part.invariant.1
