use Rattle.std.proofs.Common.{◌≡◌, ◌+◌, ◌≤◌, length}
use Rattle.vfs_core.specs.Files.{existing_files_from}
use Rattle.vfs_core.proofs.vfs_iter.VfsIterIterator.next.Given as goal

abbrev pub invariant-loop-path : goal.invariant-loop-path
invariant-loop-path l =
    (existing_files_from l.self-inside.next l.self-inside.entries ≡ l.fn.self)
    × (l.self-inside.next + length l.self-inside.entries ≤ 0x7fff_ffff)

abbrev pub decreases-loop-path : goal.decreases-loop-path
decreases-loop-path l = length l.self-inside.entries
