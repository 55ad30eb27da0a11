use Rattle.std.proofs.Common.{sym, ◌∙◌}
use Rattle.base_text_paths.specs.AbsPath.{abs_text}
use Rattle.pm_tools_ask.proofs.ManifestSearch.{named_has_parent}
use Rattle.pm_tools_ask.proofs.manifest_discovery.manifest_named.Goals as goal

pub manifest_at-requires : goal.manifest_at-requires
manifest_at-requires g c =
    named_has_parent c.args.name.now (abs_text c.args.path) c.in_ok-file.file (sym c.has_name.ensures ∙ c.if-has_name.true) c.in_ok-file.ensures
