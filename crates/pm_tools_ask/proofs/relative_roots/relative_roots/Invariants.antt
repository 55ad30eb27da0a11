use Rattle.std.proofs.Common.{◌≡◌, ℕ, List}
use Rattle.base_values.specs.ByText.{value_at}
use Rattle.pm_tools_ask.specs.RelativeRoots.{relative_root}
use Rattle.pm_tools_ask.proofs.relative_roots.relative_roots.Given as goal

-- each variable has the directory of its first statement so far
abbrev pub invariant-loop-statement : goal.invariant-loop-statement
invariant-loop-statement l = (name : List ℕ) → value_at name l.roots ≡ relative_root name l.yielded
