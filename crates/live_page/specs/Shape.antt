-- What a database shows after a flush, by paths, and what it is to show of files that are placed by roots.
use Rattle.std.specs.Prelude.{ℕ, Bool, not, List, Option, Some, map}
use Rattle.std.specs.List.{filter, filter_map}
use Rattle.std.specs.Option.{option_map}
use Rattle.base_values.specs.Sorted.{sorted}
use Rattle.vfs_core.specs.Files.{Files, existing_files}
use Rattle.vfs_core.specs.VfsPath.{PathContent, vfs_path_cmp}
use Rattle.vfs_sets.specs.FileSet.{path_of}
use Rattle.vfs_sets.specs.Placement.{place_of}
use Rattle.input_db.specs.Database.{Database}
use Rattle.input_db_files.specs.Files.{file_root_of, source_root_at, stored_place, text_of_file}
use Rattle.input_db_files.specs.SourceRoot.{files_in, set_of_root}
use Rattle.input_db_files.specs.declared.durability.Durability.{Durability}
use Rattle.input_db_files.specs.declared.inputs.FileSourceRootInput.{FileSourceRootInput}
use Rattle.input_db_files.specs.declared.inputs.SourceRootInput.{SourceRootInput}
use Rattle.live_page.specs.Page.{numbers_listed}
use Rattle.vfs_sets.specs.FileRoots.{is_local_at, root_lists, set_numbers}
use Rattle.live_page.specs.SourceRoots.{durability_at}
use Rattle.live_page.specs.FlushPage.{paths_at}
use Rattle.vfs_sets.specs.declared.file_root.FileRoot.{FileRoot}

-- a source root: whether it is a library, how durable it is, and its paths in order
pub record RootShape : Type 0 where
  pub is_library : Bool
  pub durability : Durability
  pub paths : List PathContent

-- a file that lives: its path, its text, and its source root with that one's durability
pub record FileShape : Type 0 where
  pub path : PathContent
  pub text : Option (List ℕ)
  pub place : Option FileSourceRootInput

-- what does not hang on the table of files: the numbers of the local roots and of the libraries, and these
-- roots in order of their numbers
pub record BaseShape : Type 0 where
  pub local : List ℕ
  pub library : List ℕ
  pub roots : List RootShape

-- the base, and the files in order of their paths
pub record Shape : Type 0 where
  pub base : BaseShape
  pub files : List FileShape

-- paths in their order
abbrev pub paths_sorted : List PathContent → List PathContent
paths_sorted paths = sorted vfs_path_cmp paths

-- files in the order of their paths
abbrev pub files_sorted : List FileShape → List FileShape
files_sorted files = sorted (λ x y. vfs_path_cmp x.path y.path) files

-- ---- what is to be shown

-- the source root of a set
abbrev pub root_shape : List FileRoot → List PathContent → ℕ → RootShape
root_shape roots paths number = record {
  is_library = not (is_local_at roots number);
  durability = durability_at roots number;
  paths = paths_sorted (paths_at roots paths number);
}

-- the base of these paths
abbrev pub base_shape : List FileRoot → List PathContent → BaseShape
base_shape roots paths = record {
  local = filter (is_local_at roots) (set_numbers roots);
  library = filter (λ number. not (is_local_at roots number)) (set_numbers roots);
  roots = map (root_shape roots paths) (set_numbers roots);
}

-- the source root of a path's file: that of its set
abbrev pub place_shape : List FileRoot → PathContent → FileSourceRootInput
place_shape roots path =
    let number = place_of (root_lists roots) path in stored_place number (durability_at roots number)

-- a file that lives
abbrev pub file_shape : List FileRoot → PathContent × List ℕ → FileShape
file_shape roots file = record { path = file.0; text = Some file.1; place = Some (place_shape roots file.0) }

-- these files, with the base of their paths
abbrev pub shape : List FileRoot → List (PathContent × List ℕ) → Shape
shape roots files = record {
  base = base_shape roots (map (λ file. file.0) files);
  files = files_sorted (map (file_shape roots) files);
}

-- ---- what a database shows

-- the texts that a database knows
abbrev pub texts_known : Database → ℕ → Option (List ℕ)
texts_known db file = option_map (λ text. text.text) (text_of_file db.files file)

-- a source root as the database has it
abbrev pub root_image : SourceRootInput → RootShape
root_image input = record {
  is_library = input.source_root.is_library;
  durability = input.durability;
  paths = paths_sorted (filter_map (path_of (set_of_root input.source_root)) (files_in input.source_root));
}

-- a file as the database has it
abbrev pub file_image : Database → ℕ × PathContent → FileShape
file_image db file = record {
  path = file.1;
  text = texts_known db file.0;
  place = file_root_of db.files file.0;
}

-- what a database shows of the roots that its lists name
abbrev pub base_image : Database → BaseShape
base_image db = record {
  local = db.local.roots.keys;
  library = db.library.roots.keys;
  roots = filter_map (λ number. option_map root_image (source_root_at db.files number)) (numbers_listed db);
}

-- and of the files that exist
abbrev pub image : Database → Files → Shape
image db files = record {
  base = base_image db;
  files = files_sorted (map (file_image db) (existing_files files));
}
