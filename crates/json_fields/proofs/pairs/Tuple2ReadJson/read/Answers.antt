use Rattle.std.proofs.Common.{rules}
use Rattle.json_fields.specs.Laws.Pairs.{two_items-other}
use Rattle.json_fields.proofs.pairs.Tuple2ReadJson.read.Goals.{in_default-as_slice-via-then-as_slice-lt2, in_default-as_slice-via-else-as_slice-lt2+else-this-lt3}
use Rattle.json_fields.proofs.pairs.Tuple2ReadJson.read.Goals as goal

pub returns-in_default-as_slice : goal.returns-in_default-as_slice
returns-in_default-as_slice g c =
    let other = two_items-other g.A.ReadJson.reads g.B.ReadJson.reads c.in-Some.values.now.items in
    elim c.in_default-as_slice.branch [
      | in_default-as_slice-via-then-as_slice-lt2 w ↦ search (rules, other)
      | in_default-as_slice-via-else-as_slice-lt2+else-this-lt3 w ↦ search (rules, other)
    ]
