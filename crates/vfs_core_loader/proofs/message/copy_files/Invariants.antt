use Rattle.std.proofs.Common.{◌≡◌, take}
use Rattle.vfs_core_loader.proofs.message.copy_files.Given as goal

abbrev pub invariant-loop-path : goal.invariant-loop-path
invariant-loop-path l = l.copies.items ≡ take l.path-index l.files
