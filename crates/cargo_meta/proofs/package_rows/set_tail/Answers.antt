use Rattle.cargo_meta.specs.Package.{package_tail_set}
use Rattle.cargo_meta.proofs.package_rows.set_tail.Goals as goal

pub returns : goal.returns
unfolding package_tail_set
returns c =
    rw (c.in_ok-set-7.ensures.set, c.in_ok-set-6.ensures.set, c.in_ok-set-5.ensures.set, c.in_ok-set-4.ensures.set, c.in_ok-set_unless_null.ensures.set, c.in_ok-set-3.ensures.set, c.in_ok-set-2.ensures.set, c.in_ok-set.ensures.set)
