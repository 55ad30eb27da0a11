use Rattle.std.proofs.Common.{ap, length}
use Rattle.std.proofs.iter.runs.Sources.{from_front}
use Rattle.std.specs.Map.Iter.{TakesFirst}
use Rattle.vfs_sets.specs.FileSet.{number_shown}
use Rattle.vfs_sets.proofs.file_set.FileSet.iter.Goals as goal

pub returns-in-Few-clause-runs : goal.returns-in-Few-clause-runs
returns-in-Few-clause-runs c =
    from_front (TakesFirst number_shown) number_shown (λ s. s) (λ s t h. ap length h.0) (λ s x t h. h)

pub returns-in-Many-clause-runs : goal.returns-in-Many-clause-runs
returns-in-Many-clause-runs c =
    from_front (TakesFirst number_shown) number_shown (λ s. s) (λ s t h. ap length h.0) (λ s x t h. h)
