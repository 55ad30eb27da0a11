use Rattle.std.proofs.Common.{◌∙◌, [], ◌∷◌, map, ap, sym, lit<}
use Rattle.std.proofs.lemmas.List.{map-append}
use Rattle.std.proofs.lemmas.Iterator.Consumers.{YieldsList-at, YieldsList-end}
use Rattle.std.proofs.lemmas.Iterator.Splits.{YieldsList-from_str_split}
use Rattle.std.specs.List.{filter}
use Rattle.base_text_paths.specs.Paths.{components, is_component, last_component}
use Rattle.pm_tools.proofs.LibraryLemmas.{last_component-more}
use Rattle.pm_tools.proofs.library.last_component.Goals as goal

pub loop-part-preserved-then-is_component : goal.loop-part-preserved-then-is_component
loop-part-preserved-then-is_component c =
    last_component-more (map (λ part. part.now) c.loop-part.yielded) c.in-Some.part.now (sym c.is_component.ensures ∙ c.if-is_component.true)
    ∙ ap (λ parts. last_component (filter is_component parts)) (sym (map-append (λ part. part.now) c.loop-part.yielded (c.in-Some.part ∷ [])))

pub returns : goal.returns
unfolding components
returns c =
    let split = YieldsList-from_str_split 47 c.args.text.now (lit< tt) c.split-part-items.ensures.text c.split-part-items.ensures.has_more c.split-part-items.ensures.pattern in
    let done = YieldsList-end (YieldsList-at c.into_iter-part-iterator.ensures.into_iter_gives split) c.loop-part.yielded _ c.loop-part.yielded_by _ _ c.in-None.is c.next.ensures.steps in
    c.loop-part.invariant ∙ ap (λ parts. last_component (filter is_component parts)) done.0
