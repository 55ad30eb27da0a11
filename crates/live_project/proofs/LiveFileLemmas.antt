-- Files as a loader finds them, put in one after the other.
use Rattle.std.proofs.Common.{◌≡◌, ℕ, List, [], ◌∷◌, ◌++◌}
use Rattle.std.proofs.lemmas.List.Sums.{fold-append}
use Rattle.vfs_core.specs.VfsPath.{PathContent}
use Rattle.live_project.specs.Crates.{files_by_path, with_live_file}

-- one more file
pub files_by_path-more : (files : List (ℕ × PathContent)) (file : ℕ × PathContent) → files_by_path (files ++ file ∷ []) ≡ with_live_file (files_by_path files) file
unfolding files_by_path
files_by_path-more files file = fold-append with_live_file [] files (file ∷ [])
