use Rattle.std.proofs.Common.{ap, rules, ◌∙◌}
use Rattle.std.specs.Cmp.Lexicographic.{nat_list_cmp_total}
use Rattle.base_values.specs.Sorted.{sorted}
use Rattle.cargo_meta.specs.declared.package.Package.{Package}
use Rattle.pm_cargo_reading.specs.Packages.{by_id}
use Rattle.pm_cargo_reading.proofs.OrderLemmas.{sorted_by_closure}
use Rattle.pm_cargo_reading.proofs.contents.packages_in_order.Goals as goal

pub returns : goal.returns
returns c =
    sorted_by_closure nat_list_cmp_total (λ (p : Package). p.id.repr) c.into_inner-packages.result.items c.sort_by.new.self.items
    c.in_ok-sort_by.ensures.sorted c.in_ok-sort_by.ensures.stable (λ a r q k. search rules)
    ∙ ap (sorted by_id) c.into_inner-packages.ensures
