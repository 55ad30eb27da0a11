use Rattle.std.proofs.Common.{take}
use Rattle.base_text_paths.specs.AbsPath.{abs_text}
use Rattle.vfs_core_loader.proofs.PrefixLemmas.{IsLongestSoFar}
use Rattle.vfs_core_loader.proofs.entry.longest_above.Given as goal

abbrev pub invariant-loop-directory : goal.invariant-loop-directory
invariant-loop-directory l = IsLongestSoFar (take l.directory-index l.directories) (abs_text l.path) l.longest
