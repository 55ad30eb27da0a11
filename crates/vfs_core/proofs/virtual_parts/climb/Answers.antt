use Rattle.std.proofs.Common.{◌≡◌, ◌∙◌, ◌++◌, ap, rules, sym, None}
use Rattle.std.specs.Prelude.{codes}
use Rattle.vfs_core.specs.VirtualPath.{climb}
use Rattle.vfs_core.proofs.PartLemmas.{climbed_end, climbed_top, climbed_up}
use Rattle.vfs_core.proofs.virtual_parts.climb.Goals as goal

pub returns-in_err-above : goal.returns-in_err-above
returns-in_err-above c =
    let cut = c.in-Some.ensures.cases in
    let split : c.loop-more.rest.now ≡ codes "../" ++ c.in-Some.more.now = cut.1.1 ∙ ap (λ s. codes "../" ++ s) (sym cut.2) in
    let top : climb c.loop-more.above.now c.loop-more.rest.now ≡ None = climbed_top _ _ _ split (sym c.in_err-above.ensures) in
    rw c.from_residual.ensures (sym top ∙ c.loop-more.invariant.2)

pub loop-more-preserved : goal.loop-more-preserved
loop-more-preserved c =
    let cut = c.in-Some.ensures.cases in
    let split : c.loop-more.rest.now ≡ codes "../" ++ c.in-Some.more.now = cut.1.1 ∙ ap (λ s. codes "../" ++ s) (sym cut.2) in
    (search rules, search rules, sym (climbed_up _ _ _ _ split (sym c.in_ok-above.ensures)) ∙ c.loop-more.invariant.2)

pub returns : goal.returns
returns c = sym (climbed_end _ _ c.in_default.ensures.cases) ∙ c.loop-more.invariant.2
