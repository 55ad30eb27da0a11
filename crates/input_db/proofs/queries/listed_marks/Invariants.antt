use Rattle.std.proofs.Common.{◌≡◌, length, take}
use Rattle.input_db.specs.Queries.{AreMarksOf}
use Rattle.input_db.proofs.queries.listed_marks.Given as goal

abbrev pub invariant-loop-krate : goal.invariant-loop-krate
invariant-loop-krate l = record {
  count : length l.marks.items ≡ l.count;
  listed : AreMarksOf l.marks.items (take l.krate-index l.listed);
}
