-- The search goes on from the directory that is left, as from the path.
use Rattle.std.proofs.Common.{◌≡◌}
use Rattle.base_text_paths.specs.AbsPath.{abs_text}
use Rattle.pm_tools_ask.proofs.ManifestSearch.{height_left, nearest_left}
use Rattle.pm_tools_ask.specs.ManifestDiscovery.{nearest_entry}
use Rattle.pm_tools_ask.proofs.manifest_discovery.nearest_entry.Given as goal

abbrev pub invariant-loop-above : goal.invariant-loop-above
invariant-loop-above g l =
    nearest_left (g.T.Tree.files l.tree) l.name l.above ≡ nearest_entry (g.T.Tree.files l.tree) l.name (abs_text l.fn.path)

abbrev pub decreases-loop-above : goal.decreases-loop-above
decreases-loop-above g l = height_left l.above
