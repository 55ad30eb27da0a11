use Rattle.std.specs.Cmp.{nat_cmp_total}
use Rattle.std.specs.FinMap.{nat_cmp-IsAntisymmetric}
use Rattle.std.specs.Ordering.{nat_cmp}
use Rattle.base_values.proofs.MapViews.{get-view, insert_view}
use Rattle.base_values.proofs.by_number.ByNumber.insert.Goals as goal

pub returns-clause-ok : goal.returns-clause-ok
returns-clause-ok g c =
    rw (← c.self.view_is)
    (insert_view nat_cmp nat_cmp_total nat_cmp-IsAntisymmetric _ _ _ _ c.in_ok-insert.ensures.updates.0)

pub returns-clause-before : goal.returns-clause-before
returns-clause-before g c = rw (← c.self.view_is, get-view nat_cmp nat_cmp_total) c.in_ok-insert.ensures.old
