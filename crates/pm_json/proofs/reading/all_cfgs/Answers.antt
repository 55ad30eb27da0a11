use Rattle.std.proofs.Common.{◌≡◌, [], refl}
use Rattle.base_values.specs.Sorted.{sorted}
use Rattle.pm_json.specs.Crates.{cfgs_of}
use Rattle.pm_json.proofs.reading.all_cfgs.Goals as goal

pub returns-then-is_empty : goal.returns-then-is_empty
unfolding cfgs_of sorted
returns-then-is_empty c = let empty : c.args.names ≡ [] = c.is_empty.ensures.0 c.if-is_empty.true in rw empty refl
