use Rattle.std.proofs.Common.{◌∙◌, ap, refl}
use Rattle.std.specs.Ordering.{nat_cmp}
use Rattle.std.specs.Cmp.{nat_cmp_total}
use Rattle.std.specs.FinMap.{nat_cmp-IsAntisymmetric, from_entries}
use Rattle.base_values.proofs.MapViews.{get-view, insert_view, lent_where_found}
use Rattle.base_values.proofs.by_number.ByNumber.get_mut.Goals as goal

pub returns : goal.returns
returns g c = (
  (
    refl,
    λ w. lent_where_found c.get_mut.result _ _ c.get_mut.ensures.value (λ found.
        rw (← c.self.view_is)
        (insert_view nat_cmp nat_cmp_total nat_cmp-IsAntisymmetric _ _ _ _ ((c.get_mut.follows.holds w).3 found).0)),
    ap (λ m. from_entries {R = nat_cmp} m.entries) c.get_mut.follows.holds-at-none ∙ c.self.view_is,
  ),
  record {
    writes_back = tt;
    value = rw (← c.self.view_is, get-view nat_cmp nat_cmp_total) c.get_mut.ensures.value;
  },
)
