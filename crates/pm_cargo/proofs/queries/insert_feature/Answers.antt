use Rattle.std.proofs.Common.{◌++◌, ◌∷◌, cond, true, ap, ◌∙◌, string_bytes}
use Rattle.std.specs.Prelude.{bytes_eq}
use Rattle.std.specs.BTreeSet.{contains_text}
use Rattle.std.proofs.lemmas.Map.Text.{btree_set_updates_text}
use Rattle.pm_cargo.proofs.QueryLemmas.{two_more}
use Rattle.pm_cargo.proofs.queries.insert_feature.Goals as goal

pub returns : goal.returns
returns c = λ text.
    let feature = string_bytes c.args.feature.now in
    let name = c.args.name.now in
    let old = contains_text c.args.features.now text in
    let one = btree_set_updates_text _ c.args.features.now c.insert.new.self _ c.in_ok-insert.ensures.updates text in
    let two = btree_set_updates_text _ c.insert.new.self c.insert-2.new.self _ c.in_ok-insert-2.ensures.updates text in
    let first = ap (λ bs. bytes_eq bs text) c.in_ok-clone.ensures.cases in
    let second = ap (λ bs. bytes_eq bs text) (c.in_ok-format.ensures.ok ∙ ap (λ bs. name ++ 47 ∷ bs) c.as_str.ensures.value) in
    two ∙ ap (λ b. cond b true (contains_text c.insert.new.self text)) second
    ∙ ap (cond (bytes_eq (name ++ 47 ∷ feature) text) true) (one ∙ ap (λ b. cond b true old) first)
    ∙ two_more old (bytes_eq feature text) (bytes_eq (name ++ 47 ∷ feature) text)
