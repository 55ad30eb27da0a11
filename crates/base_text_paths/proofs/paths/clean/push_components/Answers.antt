use Rattle.std.proofs.Common.{◌≡◌, ◌++◌, ℕ, true, List, [], ◌∷◌, map, Bor, sym, ap, ◌∙◌, append_assoc, append-nil, lit<, string_bytes}
use Rattle.std.proofs.lemmas.List.{map-append}
use Rattle.std.proofs.lemmas.Iterator.Consumers.{YieldsList-at, YieldsList-end}
use Rattle.std.proofs.lemmas.Iterator.Splits.{YieldsList-from_str_split}
use Rattle.std.specs.List.{filter}
use Rattle.base_text_paths.specs.Paths.{components, is_component, with_slashes}
use Rattle.base_text_paths.proofs.Names.{components_are_names, row_append, slashed_more}
use Rattle.base_text_paths.proofs.paths.clean.push_components.Goals as goal

pub loop-part-init : goal.loop-part-init
unfolding with_slashes
loop-part-init c = sym (append-nil _)

-- a slash and a name behind what is built
pushed : (start old slash new : List ℕ) (yielded : List (Bor (List ℕ))) (part : Bor (List ℕ)) → is_component part.now ≡ true → old ≡ start ++ with_slashes (filter is_component (map (λ x. x.now) yielded)) → slash ≡ old ++ 47 ∷ [] → new ≡ slash ++ part.now → new ≡ start ++ with_slashes (filter is_component (map (λ x. x.now) (yielded ++ part ∷ [])))
pushed start old slash new yielded part counts before one two =
    two ∙ ap (λ s. s ++ part.now) (one ∙ ap (λ s. s ++ 47 ∷ []) before)
    ∙ append_assoc _ (47 ∷ []) part.now
    ∙ append_assoc start _ _
    ∙ ap (λ s. start ++ s) (sym (slashed_more (map (λ x. x.now) yielded) part.now counts))
    ∙ ap (λ parts. start ++ with_slashes (filter is_component parts)) (sym (map-append (λ x. x.now) yielded (part ∷ [])))

pub loop-part-preserved-in-Continue-branch-2 : goal.loop-part-preserved-in-Continue-branch-2
loop-part-preserved-in-Continue-branch-2 c =
    let slash = c.in_ok-push.ensures.bytes ∙ ap (λ s. string_bytes c.loop-part.text ++ s) (c.in_ok-push.ensures.ascii (lit< tt)) in
    pushed _ _ _ _ c.loop-part.yielded c.in-Some.part (sym c.is_component.ensures ∙ c.if-is_component.true) c.loop-part.invariant slash c.in_ok-push_str.ensures.bytes

pub returns : goal.returns
unfolding components
returns c =
    let split = YieldsList-from_str_split 47 c.args.tail.now (lit< tt) c.split-part-items.ensures.text c.split-part-items.ensures.has_more c.split-part-items.ensures.pattern in
    let done = YieldsList-end (YieldsList-at c.into_iter-part-iterator.ensures.into_iter_gives split) c.loop-part.yielded _ c.loop-part.yielded_by _ _ c.in-None.is c.next.ensures.steps in
    row_append _ _ _ c.requires (components_are_names c.args.tail.now)
    (c.loop-part.invariant ∙ ap (λ parts. string_bytes c.args.text.now ++ with_slashes (filter is_component parts)) done.0)
