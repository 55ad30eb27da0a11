use Rattle.std.proofs.Common.{◌≡◌, false, map}
use Rattle.std.specs.List.{list_any}
use Rattle.live_config.specs.Values.{is_empty_text}
use Rattle.live_config.proofs.values.feature_names.Given as goal

abbrev pub invariant-loop-name : goal.invariant-loop-name
invariant-loop-name l = record {
  read : l.names.items ≡ map (λ name. name.now) l.yielded;
  named : list_any is_empty_text l.names.items ≡ false;
}
