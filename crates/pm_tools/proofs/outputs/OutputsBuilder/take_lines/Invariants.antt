use Rattle.std.proofs.Common.{◌≡◌, map, Ok}
use Rattle.base_text.specs.Progress.{with_lines}
use Rattle.pm_tools.specs.Lines.{lines_from}
use Rattle.pm_tools.specs.Outputs.{take_output_line}
use Rattle.pm_tools.specs.Packages.{lent_packages}
use Rattle.base_values.specs.Outcome.{take_each}
use Rattle.pm_tools.proofs.outputs.OutputsBuilder.take_lines.Given as goal

-- the messages so far were taken, and their lines came
abbrev pub invariant-loop-line : goal.invariant-loop-line
invariant-loop-line g l = record {
  read : take_each (take_output_line (lent_packages l.packages.packages)) l.initial.self (map (λ line. line.now) l.yielded) ≡ Ok l.self;
  came : g.P.Progress.lines l.progress ≡ with_lines (lines_from (lent_packages l.packages.packages) (Ok l.initial.self) (map (λ line. line.now) l.yielded)) (g.P.Progress.lines l.initial.progress);
}
