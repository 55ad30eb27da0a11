use Rattle.std.proofs.Common.{◌≡◌, ◌++◌, length}
use Rattle.input_db.specs.Applied.{with_roots_from}
use Rattle.input_db.specs.Database.{with_files}
use Rattle.input_db.proofs.applying.give_each.Given as goal

abbrev pub invariant-loop-root : goal.invariant-loop-root
invariant-loop-root g l = record {
  done : g.D.SourceDatabase.seen l.db ≡ with_files (g.D.SourceDatabase.seen l.initial.db)
      (with_roots_from 0 (g.D.SourceDatabase.seen l.initial.db).files l.yielded);
  all : l.initial.root-iterator.rest.items ≡ l.yielded ++ l.root-iterator.rest.items;
  count : l.number ≡ length l.yielded;
}
