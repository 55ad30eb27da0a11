use Rattle.std.proofs.Common.{◌≡◌}
use Rattle.live_page.specs.SourceRoots.{source_roots}
use Rattle.live_page.proofs.source_roots.source_roots.Given as goal

-- the source roots of the sets so far
abbrev pub invariant-loop-set : goal.invariant-loop-set
invariant-loop-set l = l.made.items ≡ source_roots l.roots l.yielded
