-- The partition of files into sets: each file is in its place and no other.
use Rattle.std.specs.Prelude.{◌≡◌, ℕ, ◌+◌, ◌<◌, ◌==◌, List, length, slice_index_or}
use Rattle.std.specs.List.{All, filter}
use Rattle.vfs_core.specs.VfsPath.{PathContent}
use Rattle.vfs_sets.specs.FileSet.{FileSetContent, empty_set, set_of, with_set_file}
use Rattle.vfs_sets.specs.Placement.{place_of}

-- the files whose place is a set
abbrev pub files_of_set : List (List PathContent) → ℕ → List (ℕ × PathContent) → List (ℕ × PathContent)
files_of_set roots number files = filter (λ file. place_of roots file.1 == number) files

-- one set for each list of roots and one more, each of the files whose place it is
pub record IsPartition (roots : List (List PathContent)) (files : List (ℕ × PathContent))
    (sets : List FileSetContent) : Type 0 where
  pub count : length sets ≡ length roots + 1
  pub each : (number : ℕ) (none : FileSetContent) → number < length sets
      → slice_index_or sets number none ≡ set_of (files_of_set roots number files)

-- so many sets, none with files
pub record AreEmpty (sets : List FileSetContent) (count : ℕ) : Type 0 where
  pub length_is : length sets ≡ count
  pub each : All (λ set. set ≡ empty_set) sets

-- one set has a file more, each other set what it had
pub record HasPut (old new : List FileSetContent) (place file : ℕ) (path : PathContent) : Type 0 where
  pub length_is : length new ≡ length old
  pub own : (none : FileSetContent)
      → slice_index_or new place none ≡ with_set_file (slice_index_or old place none) file path
  pub others : (number : ℕ) (none : FileSetContent) → (number ≡ place → ⊥)
      → slice_index_or new number none ≡ slice_index_or old number none
