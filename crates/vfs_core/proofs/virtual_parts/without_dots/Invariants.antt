use Rattle.std.proofs.Common.{◌≡◌, length}
use denote.Text.{Utf8}
use denote.Shadow.{shadow}
use Rattle.vfs_core.specs.VirtualPath.{without_dots}
use Rattle.vfs_core.proofs.virtual_parts.without_dots.Given as goal

abbrev pub invariant-loop-more : goal.invariant-loop-more
invariant-loop-more l = shadow (Utf8 l.rest) × (without_dots l.rest ≡ without_dots l.fn.tail)

abbrev pub decreases-loop-more : goal.decreases-loop-more
decreases-loop-more l = length l.rest
