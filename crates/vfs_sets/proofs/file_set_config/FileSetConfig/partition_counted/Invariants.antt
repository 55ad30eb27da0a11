use Rattle.std.proofs.Common.{◌≡◌, ◌++◌, map}
use Rattle.vfs_core.specs.Files.{existing_files, numbered_path}
use Rattle.vfs_sets.specs.Partition.{IsPartition}
use Rattle.vfs_sets.specs.Probes.{CountsPlacing}
use Rattle.vfs_sets.proofs.file_set_config.FileSetConfig.partition_counted.Given as goal

abbrev pub invariant-loop-id : goal.invariant-loop-id
invariant-loop-id g l =
    IsPartition l.fn.self (map numbered_path l.yielded) l.sets.items
    × CountsPlacing l.fn.self (map numbered_path l.yielded) (g.L.Ledger.count l.fn.steps.ledger) (g.L.Ledger.count l.steps.ledger)
    × (map numbered_path l.yielded ++ l.id-iterator ≡ existing_files l.fn.vfs)
