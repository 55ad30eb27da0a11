use Rattle.std.proofs.Common.{◌≡◌, ◌∙◌, ap, arith, codes, filter, map, sym, take}
use Rattle.std.specs.BTreeSet.{contains_text}
use Rattle.std.proofs.lemmas.List.{take_all}
use Rattle.std.proofs.lemmas.Result.{IfOk-weaker}
use Rattle.cargo_meta.proofs.Joins.{join_by-map}
use Rattle.cargo_meta.specs.Command.{joined_text}
use Rattle.pm_cargo.specs.Queries.{is_feature}
use Rattle.pm_tools.proofs.FeatureLemmas.{filter-passed, shown-kept}
use Rattle.pm_tools.proofs.features.known_features.Goals as goal
use Rattle.pm_tools.proofs.features.known_features.Goals.{then-contains+in_ok-push, else-contains}

-- a feature is taken exactly where the workspace has it
pub loop-feature-preserved : goal.loop-feature-preserved
loop-feature-preserved c =
    let p = is_feature c.args.workspace.now in let xs = c.args.features.now in let i = c.loop-feature.feature-index in
    let x = c.feature-item.result in
    let test : p x ≡ c.contains.result
    = sym (c.in_ok-known.ensures x) ∙ ap (contains_text c.in_ok-known.known) (sym c.as_str.ensures) ∙ sym c.contains.ensures in
    elim c.if-contains.branch [
      | then-contains+in_ok-push w ↦
          ap (λ v. map (λ name. name.now) v.items) w.names-is
          ∙ shown-kept p xs i x c.loop-feature-test.true c.feature-item.is (λ name. name.now) c.loop-feature.names.items w.push.new.self.items
          w.as_str-then-contains.result c.loop-feature.invariant w.in_ok-push.ensures.items w.as_str-then-contains.ensures (test ∙ w.if-contains.true)
      | else-contains w ↦
          ap (λ v. map (λ name. name.now) v.items) w.names-is ∙ c.loop-feature.invariant
          ∙ filter-passed p xs i x c.loop-feature-test.true c.feature-item.is (test ∙ w.if-contains.false)
    ]

-- the names are those of the features that the workspace has, so they are joined to the same
pub returns : goal.returns
returns c =
    let p = is_feature c.args.workspace.now in let xs = c.args.features.now in
    let whole : filter p (take c.loop-feature.feature-index xs) ≡ filter p xs = ap (filter p) (take_all _ xs (omega arith)) in
    let shown : map (λ name. name.now) c.deref.result.now ≡ filter p xs
    = ap (map (λ name. name.now)) c.deref.ensures.value ∙ c.loop-feature.invariant ∙ whole in
    IfOk-weaker c.join.result _ _
    (λ names h. h ∙ join_by-map (λ name. name.now) (codes ",") c.deref.result.now ∙ ap (joined_text (codes ",")) shown)
    c.join.ensures.ok
