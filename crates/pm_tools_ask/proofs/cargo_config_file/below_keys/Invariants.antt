use Rattle.std.proofs.Common.{◌≡◌, drop}
use Rattle.toml.specs.View.{view}
use Rattle.pm_tools_ask.specs.Config.{below_keys}
use Rattle.pm_tools_ask.proofs.cargo_config_file.below_keys.Given as goal

abbrev pub invariant-loop-key : goal.invariant-loop-key
invariant-loop-key l = below_keys (view l.value) (drop l.key-index l.keys) ≡ below_keys (view l.document) l.keys
