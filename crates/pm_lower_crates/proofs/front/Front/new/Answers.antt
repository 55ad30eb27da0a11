use Rattle.pm_lower_crates.proofs.front.Front.new.Goals as goal

pub invariant_of-result : goal.invariant_of-result
invariant_of-result c = (c.len-size.ensures.length, record { well_made = c.len-size.ensures.well_made; public = c.requires })
