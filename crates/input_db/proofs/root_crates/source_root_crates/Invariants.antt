use Rattle.std.proofs.Common.{◌≡◌, filter, take}
use Rattle.input_db.specs.RootCrates.{is_in_root}
use Rattle.input_db.proofs.root_crates.source_root_crates.Given as goal

abbrev pub invariant-loop-krate : goal.invariant-loop-krate
invariant-loop-krate g l =
    l.crates.items ≡ filter (is_in_root (g.D.SourceDatabase.seen l.db) l.id) (take l.krate-index l.krate-items)
