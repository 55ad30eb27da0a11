-- The manifests so far are those of the entries so far.
use Rattle.std.proofs.Common.{◌≡◌, take}
use Rattle.base_text_paths.specs.AbsPath.{abs_text}
use Rattle.pm_tools_ask.specs.ManifestDiscovery.{manifests_below}
use Rattle.pm_tools_ask.proofs.manifest_discovery.manifests_below.Given as goal

abbrev pub invariant-loop-name : goal.invariant-loop-name
invariant-loop-name g l = l.found.items ≡ manifests_below (g.T.Tree.files l.tree) (abs_text l.directory) (take l.name-index l.names)
