use Rattle.pm_tools_ask.proofs.Scans.{first_part-cut, first_part-whole}
use Rattle.pm_tools_ask.proofs.keys.first_part.Goals as goal

pub returns-in-Some : goal.returns-in-Some
returns-in-Some c =
    let cut = first_part-cut _ _ _ _ c.cut_outside.ensures c.in-Some.is in
    record { parts = cut.0; shorter = cut.1 }

pub returns-in-None : goal.returns-in-None
returns-in-None c = record { parts = first_part-whole _ _ c.cut_outside.ensures c.in-None.is; shorter = tt }
