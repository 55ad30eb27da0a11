use Rattle.std.proofs.Common.{◌≡◌, ◌∙◌, ◌++◌, ap, rules, sym}
use Rattle.std.specs.Prelude.{codes}
use Rattle.vfs_core.proofs.PartLemmas.{dots_end, dots_more}
use Rattle.vfs_core.proofs.virtual_parts.without_dots.Goals as goal

pub loop-more-preserved : goal.loop-more-preserved
loop-more-preserved c =
    let cut = c.in-Some.ensures.cases in
    let split : c.loop-more.rest.now ≡ codes "./" ++ c.in-Some.more.now = cut.1.1 ∙ ap (λ s. codes "./" ++ s) (sym cut.2) in
    (search rules, sym (dots_more _ _ split) ∙ c.loop-more.invariant.1)

pub returns : goal.returns
returns c = sym (dots_end _ c.in_default.ensures.cases) ∙ c.loop-more.invariant.1
