use Rattle.std.proofs.Common.{refl}
use Rattle.base_text_paths.proofs.ManifestLemmas.{root_has_none}
use Rattle.pm_tools_ask.proofs.manifest_discovery.manifest_at.Goals as goal

pub unreachable-requires : goal.unreachable-requires
unreachable-requires c = root_has_none c.args.path c.requires (c.in-Err.ensures.root.0 refl)
