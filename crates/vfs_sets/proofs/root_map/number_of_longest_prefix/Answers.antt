use Rattle.std.proofs.Common.{◌-◌, ◌∙◌, ◌<◌, ap, arith, length, sym, take}
use Rattle.std.proofs.lemmas.List.{length-take-le}
use Rattle.std.specs.Option.{option_copied}
use Rattle.vfs_sets.proofs.SearchLemmas.{tried_all, tried_found, tried_more, tried_none, tried_over}
use Rattle.vfs_sets.proofs.root_map.number_of_longest_prefix.Goals as goal

pub loop-untried-init : goal.loop-untried-init
loop-untried-init g c = tried_none c.args.map.now.entries c.args.text.now _ _ (omega arith)

pub ends_component-requires : goal.ends_component-requires
ends_component-requires g c = let within = c.loop-untried.invariant.within in omega (arith, within)

pub returns-in-Some : goal.returns-in-Some
returns-in-Some g c =
    tried_found c.args.map.now.entries c.args.text.now c.loop-untried.untried _ _ _ _ c.loop-untried.invariant (omega arith)
    (sym c.ends_component.ensures ∙ c.if-not-ends_component.false) c.tick.ensures
    (sym c.get.ensures.value ∙ ap option_copied c.in-Some.is)

pub returns : goal.returns
returns g c = tried_all c.args.map.now.entries c.args.text.now c.loop-untried.untried _ _ c.loop-untried.invariant (omega arith)

pub loop-untried-preserved-then-not-ends_component : goal.loop-untried-preserved-then-not-ends_component
loop-untried-preserved-then-not-ends_component g c =
    tried_over c.args.map.now.entries c.args.text.now c.loop-untried.untried _ _ c.loop-untried.invariant (omega arith)
    (sym c.ends_component.ensures ∙ c.if-not-ends_component.true)

pub loop-untried-preserved-in_default : goal.loop-untried-preserved-in_default
loop-untried-preserved-in_default g c =
    tried_more c.args.map.now.entries c.args.text.now c.loop-untried.untried _ _ _ c.loop-untried.invariant (omega arith)
    (sym c.ends_component.ensures ∙ c.if-not-ends_component.false) c.tick.ensures
    (sym c.get.ensures.value ∙ ap option_copied c.in_default.is)

pub loop-untried-preserved : goal.loop-untried-preserved
loop-untried-preserved g c =
    let within = c.loop-untried.invariant.within in
    let cut = length-take-le (c.loop-untried.untried - 1) c.args.text.now (omega (arith, within)) in
    let longer : c.args.longest < length (take (c.loop-untried.untried - 1) c.args.text.now) = omega (arith, cut) in
    tried_more c.args.map.now.entries c.args.text.now c.loop-untried.untried _ _ _ c.loop-untried.invariant (omega arith)
    (sym c.ends_component.ensures ∙ c.if-not-ends_component.false) c.tick.ensures
    (c.requires (take (c.loop-untried.untried - 1) c.args.text.now) longer)
