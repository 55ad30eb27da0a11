use Rattle.std.proofs.Common.{◌≡◌, ◌++◌, map, take}
use Rattle.base_text_outside.specs.declared.cfg.CfgAtom.TheVariants.{KeyValue}
use Rattle.pm_tools_info.proofs.cfgs.push_for_widths.Given as goal

abbrev pub invariant-loop-width : goal.invariant-loop-width
invariant-loop-width l = l.atoms.items ≡ l.initial.atoms.items ++ map (λ width. KeyValue l.key width.now) (take l.width-index l.width-items)
