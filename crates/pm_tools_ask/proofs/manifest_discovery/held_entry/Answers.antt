use Rattle.base_text_paths.specs.AbsPath.{abs_text}
use Rattle.pm_tools_ask.proofs.ManifestSearch.{entry_has_parent}
use Rattle.pm_tools_ask.proofs.manifest_discovery.held_entry.Goals as goal

pub manifest_at-requires : goal.manifest_at-requires
manifest_at-requires g c =
    entry_has_parent c.args.name.now (abs_text c.args.directory) c.in_ok-path.path c.requires c.in_ok-path.ensures.same_components
