use Rattle.std.proofs.Common.{◌≡◌, fold, map}
use Rattle.pm_tools.specs.Outputs.{BuildState, with_line}
use Rattle.pm_tools.proofs.outputs.OutputsBuilder.push_errors.Given as goal

abbrev pub invariant-loop-line : goal.invariant-loop-line
invariant-loop-line l = ◌≡◌ {A = BuildState} l.self (record l.initial.self { errors = fold with_line l.initial.self.errors (map (λ line. line.now) l.yielded) })
