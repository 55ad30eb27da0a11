use Rattle.pm_json.specs.CrateData.{crate_tail_set}
use Rattle.pm_json.proofs.crate_rows.set_tail.Goals as goal

pub returns : goal.returns
unfolding crate_tail_set
returns c =
    rw (c.in_ok-set-9.ensures.set, c.in_ok-set-8.ensures.set, c.in_ok-set-7.ensures.set, c.in_ok-set-6.ensures.set, c.in_ok-set-5.ensures.set, c.in_ok-set-4.ensures.set, c.in_ok-set-3.ensures.set, c.in_ok-set-2.ensures.set, c.in_ok-set.ensures.set)
