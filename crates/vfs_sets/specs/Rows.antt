-- What rows of files with paths hold, and how the entries of maps are compared with them.
use Rattle.std.specs.Prelude.{◌≡◌, ℕ, Bool, ◌&&◌, List, ◌∷◌, None, map}
use Rattle.std.specs.Cmp.Lexicographic.{pointwise}
use Rattle.std.specs.Ordering.{eq_of_both, on}
use Rattle.vfs_core.specs.VfsPath.{PathContent}
use Rattle.vfs_sets.specs.FileSet.{FileSetContent, file_at, path_of}

-- what some rows hold, where each file has one path and each path one file
abbrev pub rows_content : List (ℕ × PathContent) → FileSetContent
rows_content rows = record { files = map (λ row. (row.1, row.0)) rows; paths = rows }

-- neither a file nor a path is in a set
pub record IsFreeOf (set : FileSetContent) (file : ℕ) (path : PathContent) : Type 0 where
  pub no_file : file_at set path ≡ None
  pub no_path : path_of set file ≡ None

-- whether entries are equal, by their keys and by their values
abbrev pub entries_eq : {K V : Type 0} → (K → K → Bool) → (V → V → Bool) → List (K × V) → List (K × V) → Bool
entries_eq key_eq value_eq =
    pointwise (eq_of_both (on (λ entry. entry.0) key_eq) (on (λ entry. entry.1) value_eq))

-- entries equal others that begin with an entry where the next one is that entry, and those after it equal
-- the rest
pub record ComparesNext {K V : Type 0} (key_eq : K → K → Bool) (value_eq : V → V → Bool)
    (old new : List (K × V)) (next : (K × V) × Bool) : Type 0 where
  pub each : (rest : List (K × V))
      → entries_eq key_eq value_eq old (next.0 ∷ rest) ≡ (next.1 && entries_eq key_eq value_eq new rest)
