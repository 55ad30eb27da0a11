use Rattle.std.specs.Cmp.{nat_cmp_total}
use Rattle.std.specs.Ordering.{nat_cmp}
use Rattle.base_values.proofs.MapViews.{get-view}
use Rattle.base_values.proofs.by_number.ByNumber.get.Goals as goal

pub returns : goal.returns
returns g c = rw (← c.self.view_is, get-view nat_cmp nat_cmp_total) c.get.ensures.value
