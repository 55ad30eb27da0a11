use Rattle.std.proofs.Common.{◌≡◌, ◌++◌}
use Rattle.input_db.specs.Applied.{with_changed_files}
use Rattle.input_db.specs.Database.{with_files}
use Rattle.input_db.proofs.applying.set_texts.Given as goal

abbrev pub invariant-loop-file : goal.invariant-loop-file
invariant-loop-file g l = record {
  done : g.D.SourceDatabase.seen l.db ≡ with_files (g.D.SourceDatabase.seen l.initial.db)
      (with_changed_files (g.D.SourceDatabase.seen l.initial.db).files l.yielded);
  all : l.initial.file-iterator.rest.items ≡ l.yielded ++ l.file-iterator.rest.items;
}
