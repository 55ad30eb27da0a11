use Rattle.std.proofs.Common.{◌∙◌, lit<, rules, sym}
use Rattle.vfs_core.proofs.TrimLemmas.{lacks_slash, still_past, takes_first, takes_last, takes_none, IsFirstCut}
use Rattle.vfs_core.proofs.virtual_parts.first_component.Goals as goal

pub returns-then-is_component : goal.returns-then-is_component
returns-then-is_component c =
    let cut = c.in-Some.ensures.byte (lit< tt) (λ w o h. h) in
    let first : IsFirstCut c.loop-part.rest.now c.in-Some.part.now c.in-Some.more.now =
    record { before = cut.0; after = cut.1; within = cut.2 } in
    takes_first _ _ _ _ c.loop-part.invariant.1 first (sym c.is_component.ensures ∙ c.if-is_component.true)

pub loop-part-preserved : goal.loop-part-preserved
loop-part-preserved c =
    let cut = c.in-Some.ensures.byte (lit< tt) (λ w o h. h) in
    let first : IsFirstCut c.loop-part.rest.now c.in-Some.part.now c.in-Some.more.now =
    record { before = cut.0; after = cut.1; within = cut.2 } in
    (search rules, still_past _ _ _ _ c.loop-part.invariant.1 first (sym c.is_component.ensures ∙ c.if-is_component.false))

pub returns-then-is_component-2 : goal.returns-then-is_component-2
returns-then-is_component-2 c =
    takes_last _ _ c.loop-part.invariant.1 (lacks_slash _ c.in_default.ensures.cases)
    (sym c.is_component-2.ensures ∙ c.if-is_component-2.true)

pub returns-else-is_component-2 : goal.returns-else-is_component-2
returns-else-is_component-2 c =
    takes_none _ _ c.loop-part.invariant.1 (lacks_slash _ c.in_default.ensures.cases)
    (sym c.is_component-2.ensures ∙ c.if-is_component-2.false)
