-- The names are those of the packages so far.
use Rattle.std.proofs.Common.{◌≡◌}
use Rattle.live_page.specs.Generated.{package_names}
use Rattle.live_page.proofs.generated.package_names.Given as goal

abbrev pub invariant-loop-number : goal.invariant-loop-number
invariant-loop-number l = l.names.items ≡ package_names l.number
