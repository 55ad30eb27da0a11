use Rattle.std.proofs.Common.{◌≡◌}
use Rattle.input_db.specs.Applied.{with_members}
use Rattle.input_db.specs.Database.{with_files}
use Rattle.input_db.proofs.applying.set_members.Given as goal

abbrev pub invariant-loop-member : goal.invariant-loop-member
invariant-loop-member g l =
    g.D.SourceDatabase.seen l.db ≡ with_files (g.D.SourceDatabase.seen l.initial.db)
    (with_members (g.D.SourceDatabase.seen l.initial.db).files l.yielded l.id l.durability)
