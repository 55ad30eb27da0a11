use Rattle.std.proofs.Common.{ap, rules, ◌∙◌}
use Rattle.std.specs.Cmp.Lexicographic.{nat_list_cmp_total}
use Rattle.base_values.specs.Sorted.{sorted}
use Rattle.cargo_meta_values.specs.declared.resolve.NodeDep.{NodeDep}
use Rattle.pm_cargo_reading.specs.Nodes.{by_package}
use Rattle.pm_cargo_reading.proofs.OrderLemmas.{sorted_by_closure}
use Rattle.pm_cargo_reading.proofs.nodes.entries_in_order.Goals as goal

pub returns : goal.returns
returns c =
    sorted_by_closure nat_list_cmp_total (λ (d : NodeDep). d.pkg.repr) c.into_inner-deps.result.items c.sort_by.new.self.items
    c.in_ok-sort_by.ensures.sorted c.in_ok-sort_by.ensures.stable (λ a r q k. search rules)
    ∙ ap (sorted by_package) c.into_inner-deps.ensures
