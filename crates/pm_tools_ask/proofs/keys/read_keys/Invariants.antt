use Rattle.std.proofs.Common.{◌≡◌, ◌+◌, length}
use Rattle.std.specs.Option.{option_map_or}
use Rattle.pm_tools_ask.specs.Line.{keys_of}
use Rattle.pm_tools_ask.specs.Reader.{with_keys, keys_left}
use Rattle.pm_tools_ask.proofs.keys.read_keys.Given as goal

abbrev pub invariant-loop-rest : goal.invariant-loop-rest
invariant-loop-rest l = with_keys l.keys.items (keys_left l.rest) ≡ keys_of l.text

abbrev pub decreases-loop-rest : goal.decreases-loop-rest
decreases-loop-rest l = option_map_or (λ text. length text.now + 1) l.rest 0
