use Rattle.std.proofs.Common.{take}
use Rattle.std.specs.List.{All}
use Rattle.std.specs.Option.{IsSome}
use Rattle.input_db.specs.RootCrates.{source_root_of}
use Rattle.input_db.proofs.root_crates.crates_have_source_roots.Given as goal

abbrev pub invariant-loop-krate : goal.invariant-loop-krate
invariant-loop-krate g l =
    All (λ krate. IsSome (source_root_of (g.D.SourceDatabase.seen l.db) krate)) (take l.krate-index l.krate-items)
