use Rattle.std.proofs.Common.{◌≡◌, length}
use denote.Text.{Utf8}
use denote.Shadow.{shadow}
use Rattle.vfs_core.specs.VirtualPath.{climb}
use Rattle.vfs_core.proofs.virtual_parts.climb.Given as goal

abbrev pub invariant-loop-more : goal.invariant-loop-more
invariant-loop-more l =
    shadow (Utf8 l.above) × shadow (Utf8 l.rest) × (climb l.above l.rest ≡ climb l.fn.base l.fn.tail)

abbrev pub decreases-loop-more : goal.decreases-loop-more
decreases-loop-more l = length l.rest
