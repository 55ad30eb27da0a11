use Rattle.std.proofs.Common.{◌≡◌, ℕ, List}
use Rattle.std.specs.List.{slice_set}
use Rattle.input_db.specs.SetInDb.{with_member}
use Rattle.input_db.specs.FinishSteps.{FinishedCrates, with_finished_crate}
use Rattle.input_db.proofs.lowering.finished.FinishedCrates.note.Goals as goal

-- a crate more, by the parts that change
finished_by : (f : FinishedCrates) (n file krate : ℕ) (roots given : List ℕ)
    → roots ≡ with_member f.roots file → given ≡ with_member f.given krate
    → record { numbers = slice_set f.numbers n krate; roots = roots; given = given } ≡ with_finished_crate f n file krate
finished_by f n file krate roots given same_roots same_given = rw (same_roots, same_given)

pub returns : goal.returns
returns c = rw (← c.self.view_is)
    (finished_by _ c.args.number c.args.file c.args.given c.insert.new.self.keys c.insert-2.new.self.keys
    c.in_ok-insert.ensures.keys c.in_ok-insert-2.ensures.keys)
