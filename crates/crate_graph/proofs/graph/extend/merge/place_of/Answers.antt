use Rattle.std.proofs.Common.{◌≡◌, ◌∙◌, false, true, Bool, Some, ap, arith, get_or, length, subst, sym}
use Rattle.std.specs.Prelude.{slice_index}
use Rattle.std.proofs.lemmas.List.{get_or-map, get_or_default, length-map}
use Rattle.crate_graph_values.specs.contracts.builder.CrateBuilderPartialEq.TheImpl as krates
use Rattle.crate_graph_values.specs.declared.builder.CrateBuilder.{CrateBuilder}
use Rattle.crate_graph.proofs.PlacesLemmas.{AreAlike, Searches, position_at, position_none, searches_next, searches_on}
use Rattle.base_values.proofs.Basics.{and_first}
use Rattle.crate_graph.proofs.graph.extend.merge.place_of.Goals as goal

abbrev equals : CrateBuilder → CrateBuilder → Bool
equals krate old = (krates.eq-value).it old krate

pub loop-place-init : goal.loop-place-init
loop-place-init c =
    let crates = c.args.crates.now in
    let places = c.args.places.now in
    let hash = c.hash_of.result in
    let long : length c.args.places.now ≡ length c.args.crates.now = ap length c.requires ∙ length-map crates _ in
    let alike : AreAlike (equals c.args.krate.now) c.args.crates.now c.args.places.now c.hash_of.result = λ k d within is.
    ap (λ hashes. slice_index hashes k) c.requires ∙ get_or-map _ crates k d 0 within ∙ c.hash_of.ensures.alike (get_or crates k d).basic (and_first _ _ is) in
    (hash, long, alike, searches_on (equals c.args.krate.now) crates places hash long alike 0 c.first-place.result c.first-place.ensures (λ k d below. absurd (omega (arith, below))))

pub returns-then-eq : goal.returns-then-eq
returns-then-eq c =
    let crates = c.args.crates.now in
    let krate = c.args.krate.now in
    let found = c.loop-place.invariant in
    let s : Searches (equals c.args.krate.now) c.args.crates.now c.args.places.now c.loop-place.invariant.0 (Some c.in-Some.number) = subst (Searches (equals krate) crates c.args.places.now found.0) c.in-Some.is found.3 in
    let same : equals c.args.krate.now (get_or c.args.crates.now c.in-Some.number c.index-crates-number.result) ≡ true = subst (λ old. equals krate old ≡ true) c.index-crates-number.is (sym c.eq.ensures ∙ c.if-eq.true) in
    position_at (equals krate) crates c.in-Some.number c.index-crates-number.result s.0 same s.2

pub loop-place-preserved : goal.loop-place-preserved
loop-place-preserved c =
    let crates = c.args.crates.now in
    let places = c.args.places.now in
    let krate = c.args.krate.now in
    let number = c.in-Some.number in
    let found = c.loop-place.invariant in
    let s : Searches (equals c.args.krate.now) c.args.crates.now c.args.places.now c.loop-place.invariant.0 (Some c.in-Some.number) = subst (Searches (equals krate) crates places found.0) c.in-Some.is found.3 in
    let fails : (d : CrateBuilder) → equals c.args.krate.now (get_or c.args.crates.now c.in-Some.number d) ≡ false = λ d.
    subst (λ old. equals krate old ≡ false) (c.index-crates-number.is ∙ get_or_default crates number c.index-crates-number.result d s.0) (sym c.eq.ensures ∙ c.if-eq.false) in
    (found.0, found.1, found.2, (searches_next (equals krate) crates places found.0 found.1 found.2 number c.next-place.result s fails c.next-place.ensures).0)

pub returns : goal.returns
returns c =
    let krate = c.args.krate.now in
    position_none (equals krate) c.args.crates.now (subst (Searches (equals krate) c.args.crates.now c.args.places.now c.loop-place.invariant.0) c.in_default.is c.loop-place.invariant.3)
