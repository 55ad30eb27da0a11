use Rattle.std.proofs.Common.{◌≡◌, ap, rules, ◌∙◌}
use Rattle.std.proofs.lemmas.Cmp.{nat_cmp_total, on_total}
use Rattle.std.proofs.lemmas.Fn.{always_returns_same}
use Rattle.base_values.specs.Sorted.{sorted}
use Rattle.base_values.proofs.InOrder.{sorted-unique}
use Rattle.crate_graph.specs.Extend.{by_number}
use Rattle.crate_graph.specs.Graph.{target_of}
use Rattle.crate_graph.proofs.graph.renaming.sorted_by_number.Goals as goal

pub returns : goal.returns
returns c =
    let total = on_total target_of nat_cmp_total in
    let keyed = always_returns_same _ (λ a r. r ≡ target_of a.0.now) _ (λ a r q k. search rules) in
    let is = sorted-unique total c.into_inner-deps.result.items c.sort_by_key.new.self.items (c.in_ok-sort_by_key.ensures.sorted target_of keyed) (c.in_ok-sort_by_key.ensures.stable target_of keyed) in
    c.new.ensures ∙ is ∙ ap (sorted by_number) c.into_inner-deps.ensures
