use Rattle.std.proofs.Common.{◌≡◌}
use Rattle.crate_graph_values.specs.Env.{with_pairs}
use Rattle.pm_tools.proofs.script.set_variables.Given as goal

abbrev pub invariant-loop-name : goal.invariant-loop-name
invariant-loop-name l = l.envs ≡ with_pairs l.initial.envs l.yielded
