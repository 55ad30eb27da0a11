use Rattle.std.proofs.Common.{◌++◌, sym, ap, ◌∙◌, lit<, string_bytes}
use Rattle.std.proofs.lemmas.List.{map-append}
use Rattle.std.proofs.lemmas.Iterator.Consumers.{YieldsList-at, YieldsList-end, YieldsList-turn}
use Rattle.std.proofs.lemmas.Iterator.Splits.{YieldsList-from_str_split}
use Rattle.std.proofs.lemmas.Slice.Eq.{bytes_eq-Decides}
use Rattle.base_text_paths.specs.Paths.{components}
use Rattle.base_text_paths.proofs.Names.{part_unbroken, row_of_names, row_slashed, IsName}
use Rattle.base_text_paths.proofs.Resolving.{HasTaken-none, HasTaken-up, HasTaken-name}
use Rattle.base_text_paths.proofs.paths.clean.push_resolved.Goals as goal

pub loop-part-init : goal.loop-part-init
loop-part-init c = HasTaken-none _ c.requires

pub pop_component-requires : goal.pop_component-requires
pop_component-requires c = row_slashed _ _ (row_of_names _ _ c.loop-part.invariant.built c.loop-part.invariant.names)

pub loop-part-preserved-then-eq : goal.loop-part-preserved-then-eq
loop-part-preserved-then-eq c =
    rw map-append (HasTaken-up _ _ _ _ _ c.loop-part.invariant ((bytes_eq-Decides _ _).0 (sym c.if-eq.ensures)) c.pop_component.ensures)

pub loop-part-preserved-in-Continue-branch-2 : goal.loop-part-preserved-in-Continue-branch-2
loop-part-preserved-in-Continue-branch-2 c =
    let split = YieldsList-from_str_split 47 c.args.path.now (lit< tt) c.split-part-items.ensures.text c.split-part-items.ensures.has_more c.split-part-items.ensures.pattern in
    let turn = YieldsList-turn (YieldsList-at c.into_iter-part-iterator.ensures.into_iter_gives split) c.loop-part.yielded _ c.loop-part.yielded_by _ _ c.in-Some.part c.in-Some.is c.next.ensures.steps in
    let slash = c.in_ok-push.ensures.bytes ∙ ap (λ s. string_bytes c.loop-part.text ++ s) (c.in_ok-push.ensures.ascii (lit< tt)) in
    let name : IsName c.in-Some.part.now = record { counts = sym c.is_component.ensures ∙ c.if-is_component.true; unbroken = part_unbroken c.args.path.now c.in-Some.part.now _ turn } in
    rw map-append (HasTaken-name _ _ _ _ _ _ c.loop-part.invariant (sym c.if-eq.ensures) name slash c.in_ok-push_str.ensures.bytes)

pub returns : goal.returns
unfolding components
returns c =
    let split = YieldsList-from_str_split 47 c.args.path.now (lit< tt) c.split-part-items.ensures.text c.split-part-items.ensures.has_more c.split-part-items.ensures.pattern in
    let done = YieldsList-end (YieldsList-at c.into_iter-part-iterator.ensures.into_iter_gives split) c.loop-part.yielded _ c.loop-part.yielded_by _ _ c.in-None.is c.next.ensures.steps in
    let row = row_of_names _ _ c.loop-part.invariant.built c.loop-part.invariant.names in
    rw done.0 at row
