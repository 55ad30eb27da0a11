use Rattle.std.proofs.Common.{◌≡◌, None}
use Rattle.std.specs.Prelude.{replicate}
use Rattle.pm_cargo_members.proofs.members.no_lists.Given as goal

abbrev pub invariant-loop : goal.invariant-loop
invariant-loop l = l.lists.items ≡ replicate l.counter None
