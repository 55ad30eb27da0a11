use Rattle.base_text_paths.proofs.ManifestLemmas.{parent_is_there}
use Rattle.base_text_paths.proofs.manifest_path.ManifestPath.parent.Goals as goal

pub unreachable-requires : goal.unreachable-requires
unreachable-requires c = parent_is_there c.self.inside.file c.as_path.result c.parent.result c.as_path.ensures c.parent.ensures.text c.self.invariant c.in-None.is
