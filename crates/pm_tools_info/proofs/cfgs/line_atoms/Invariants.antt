use Rattle.std.proofs.Common.{◌≡◌, ◌++◌, drop, length}
use Rattle.std.specs.Option.{option_map}
use Rattle.std.specs.Str.Lines.{lines}
use Rattle.pm_tools_info.specs.Cfgs.{atoms_in}
use Rattle.pm_tools_info.proofs.cfgs.line_atoms.Given as goal

abbrev pub invariant-loop-line : goal.invariant-loop-line
invariant-loop-line l = option_map (λ more. l.atoms.items ++ more) (atoms_in (drop (length l.yielded) (lines l.text))) ≡ atoms_in (lines l.text)
