use Rattle.std.proofs.Common.{◌≡◌, ap, ◌∙◌, sym, take, length, arith, refl, true≢false}
use Rattle.base_text_paths.specs.Paths.{components, path_text, without_last}
use Rattle.base_text_paths.proofs.Parents.{components-parent, parent_is_clean, root_components, root_text}
use Rattle.base_text_paths.proofs.Resolving.{resolved_above}
use Rattle.base_text_paths.proofs.paths.abs_path_buf.AbsPathBuf.pop.Goals as goal

pub invariant_of-self : goal.invariant_of-self
invariant_of-self c =
    parent_is_clean _ _ (c.truncate.ensures.bytes ∙ ap (take c.in-Some.end) (sym c.as_str.ensures.value) ∙ c.in-Some.ensures.text_is)

pub returns-in-Some-clause-components : goal.returns-in-Some-clause-components
returns-in-Some-clause-components c =
    let text : c.as_str.result.now ≡ c.args.self.now = c.as_str.ensures.value ∙ c.self.view_is in
    components-parent _ _ (c.truncate.ensures.bytes ∙ ap (take c.in-Some.end) (sym c.as_str.ensures.value) ∙ c.in-Some.ensures.text_is ∙ ap (λ s. path_text (without_last (components s))) text)

pub returns-in-Some-clause-at_root : goal.returns-in-Some-clause-at_root
returns-in-Some-clause-at_root c =
    let text : c.as_str.result.now ≡ c.args.self.now = c.as_str.ensures.value ∙ c.self.view_is in
    (λ e. absurd (true≢false e), λ root. absurd (omega (arith, c.in-Some.ensures.some, ap length (root_components _ (text ∙ root)))))

pub returns-in-None-clause-at_root : goal.returns-in-None-clause-at_root
returns-in-None-clause-at_root c =
    let text : c.as_str.result.now ≡ c.args.self.now = c.as_str.ensures.value ∙ c.self.view_is in
    (λ e. sym c.self.view_is ∙ root_text _ c.self.invariant (ap components (sym c.as_str.ensures.value) ∙ c.in-None.ensures), λ root. refl)

pub returns-in-Some-clause-resolved : goal.returns-in-Some-clause-resolved
returns-in-Some-clause-resolved c done = resolved_above _ _ done (returns-in-Some-clause-components c)
