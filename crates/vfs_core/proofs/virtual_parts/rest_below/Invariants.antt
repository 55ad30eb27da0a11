use Rattle.std.proofs.Common.{◌≡◌, length}
use denote.Text.{Utf8}
use denote.Shadow.{shadow}
use Rattle.base_text_paths.specs.Paths.{components}
use Rattle.vfs_core.specs.RealPath.{is_text_prefix}
use Rattle.vfs_core.specs.VirtualPath.{text_behind}
use Rattle.vfs_core.proofs.virtual_parts.rest_below.Given as goal

abbrev pub invariant-loop-part : goal.invariant-loop-part
invariant-loop-part l =
    shadow (Utf8 l.wanted) × shadow (Utf8 l.rest)
    × (is_text_prefix l.wanted l.rest ≡ is_text_prefix l.fn.front l.fn.whole)
    × (text_behind l.rest (length (components l.wanted)) ≡ text_behind l.fn.whole (length (components l.fn.front)))

abbrev pub decreases-loop-part : goal.decreases-loop-part
decreases-loop-part l = length l.wanted
