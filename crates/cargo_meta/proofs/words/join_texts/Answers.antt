use Rattle.std.proofs.Common.{◌≡◌, ◌∙◌, map, rules, ap}
use Rattle.std.specs.List.{join_by}
use Rattle.std.proofs.lemmas.Iterator.{YieldsList-from_map_by, YieldsList-from_slice}
use Rattle.std.proofs.lemmas.Iterator.Consumers.{map_from_collect}
use Rattle.std.proofs.lemmas.List.{map-id}
use Rattle.std.proofs.lemmas.Result.{IfOk-at_ok, IfOk-weaker}
use Rattle.cargo_meta.proofs.Joins.{join_by-map}
use Rattle.cargo_meta.proofs.words.join_texts.Goals as goal

-- the pieces show the texts, so they are joined to the same
pub returns : goal.returns
returns c =
    let between = c.args.between.now in
    let shown : map (λ p. p.now) c.in_ok-pieces.pieces.items ≡ map (λ text. text) c.args.texts.now
    = IfOk-at_ok _ c.in_ok-pieces.was (map_from_collect _ c.collect.ensures.ran
    (YieldsList-from_map_by _ _ (λ text. text) (YieldsList-from_slice c.args.texts.now cc)
    c.map.ensures.closure (λ x r q k. search rules))) in
    let read : map (λ p. p.now) c.deref.result.now ≡ c.args.texts.now
    = ap (map (λ p. p.now)) c.deref.ensures.value ∙ shown ∙ map-id c.args.texts.now in
    IfOk-weaker c.join.result _ _
    (λ whole h. h ∙ join_by-map (λ p. p.now) between c.deref.result.now ∙ ap (join_by (λ text. text) between) read)
    c.join.ensures.ok
