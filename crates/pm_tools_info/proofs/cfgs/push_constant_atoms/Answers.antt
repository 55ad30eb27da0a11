use Rattle.pm_tools_info.specs.Cfgs.{constant_atoms}
use Rattle.pm_tools_info.proofs.Atoms.{five}
use Rattle.pm_tools_info.proofs.cfgs.push_constant_atoms.Goals as goal

pub returns : goal.returns
unfolding constant_atoms
returns c =
    five _ _ _ _ _ _ _ _ _ _ _ _ c.in_ok-push_for_widths.ensures c.in_ok-push_flag.ensures
    c.in_ok-push_for_widths-2.ensures c.in_ok-push_flag-2.ensures c.push_flag-3.ensures
