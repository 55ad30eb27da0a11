use Rattle.std.proofs.Common.{◌≡◌, ◌++◌, take}
use Rattle.pm_json.proofs.reading.push_copies.Given as goal

abbrev pub invariant-loop-atom : goal.invariant-loop-atom
invariant-loop-atom l = l.cfgs.items ≡ l.initial.cfgs.items ++ take l.atom-index l.group
