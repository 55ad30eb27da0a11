-- What is found so far is what is found from each path so far.
use Rattle.std.proofs.Common.{◌≡◌, flat_map, take}
use Rattle.pm_tools_ask.specs.ManifestDiscovery.{found_or_none}
use Rattle.pm_tools_ask.proofs.manifest_discovery.found_from_each.Given as goal

abbrev pub invariant-loop-path : goal.invariant-loop-path
invariant-loop-path g l = l.found.items ≡ flat_map (found_or_none (g.T.Tree.files l.tree)) (take l.path-index l.paths)
