-- The source roots that the files of roots become: one for each root, in order, and one for the files that
-- fit none of them. From the way in which rust-analyzer makes source roots of a project's roots.
use Rattle.std.specs.Prelude.{ℕ, Bool, List, map, if◌then◌else◌}
use Rattle.std.specs.List.{enumerate_from}
use Rattle.input_db_files.specs.SourceRoot.{library_root, local_root}
use Rattle.input_db_files.specs.declared.durability.Durability.{Durability}
use Rattle.input_db_files.specs.declared.durability.Durability.TheVariants.{Low, Medium}
use Rattle.input_db_files.specs.declared.source_root.SourceRoot.{SourceRoot}
use Rattle.vfs_sets.specs.FileSet.{FileSetContent}
use Rattle.vfs_sets.specs.declared.file_root.FileRoot.{FileRoot}
use Rattle.vfs_sets.specs.FileRoots.{is_local_at}

-- how durable the files of a set are
abbrev pub durability_at : List FileRoot → ℕ → Durability
durability_at roots number = if is_local_at roots number then Low else Medium

-- a set of files as a source root
abbrev pub source_root : Bool → FileSetContent → SourceRoot
source_root is_local files = if is_local then local_root files else library_root files

-- sets of files as source roots
abbrev pub source_roots : List FileRoot → List FileSetContent → List SourceRoot
source_roots roots sets = map (λ set. source_root (is_local_at roots set.0) set.1) (enumerate_from 0 sets)
