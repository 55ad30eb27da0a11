-- Which files and directories an entry of a loader's configuration holds: the rules of the doc comments of
-- `Directories`.
use Rattle.std.specs.Prelude.{◌≡◌, ℕ, true, List, [], ◌∷◌, IsTrue, Option, Some, None, if◌then◌else◌, codes, map}
use Rattle.std.specs.List.{All, Contains, list_any}
use Rattle.std.specs.Option.{option_and_then, unwrap_or}
use Rattle.base_text_paths.specs.FileName.{extension_of}
use Rattle.base_text_paths.specs.PathOrder.{path_eq}
use Rattle.base_text_paths.specs.Paths.{components, components_with_tail, file_name, is_prefix, path_text}
use Rattle.vfs_core_loader.specs.declared.entry.Directories.{Directories}
use Rattle.vfs_core_loader.specs.declared.entry.Entry.{Entry}
use Rattle.vfs_core_loader.specs.declared.entry.Entry.TheVariants as entry

-- the path is a directory, or lies below it: its first components are those of the directory
abbrev pub IsBelow : List ℕ → List ℕ → Type 0
IsBelow path directory = is_prefix (components directory) (components path) ≡ true

-- of the directories that a path lies below, one that lies below each of them
pub record IsLongest (directories : List (List ℕ)) (path longest : List ℕ) : Type 0 where
  pub listed : Contains directories longest
  pub above : IsBelow path longest
  pub below_each : All (λ directory. IsBelow path directory → IsBelow longest directory) directories

-- the longer of two directories above one path, the second where there is no first
abbrev pub longer : Option (List ℕ) → List ℕ → List ℕ
longer None directory = directory
longer (Some longest) directory =
    if is_prefix (components longest) (components directory) then directory else longest

-- a path is included where it lies below an include, and below no exclude that lies below the longest such
-- include
abbrev pub IsIncluded : Directories → List ℕ → Type 0
IsIncluded directories path =
    (longest : List ℕ) × IsLongest directories.include path longest
    × All (λ exclude. IsBelow path exclude → ¬ (IsBelow exclude longest)) directories.exclude

-- the extension of a path's file name, empty where there is none
abbrev pub extension_or_empty : List ℕ → List ℕ
extension_or_empty path = unwrap_or (option_and_then extension_of (file_name path)) []

-- a file is held where its path is included and its extension is listed
abbrev pub HoldsFile : Directories → List ℕ → Type 0
HoldsFile directories path =
    Contains directories.extensions (extension_or_empty path) × IsIncluded directories path

-- an entry of files holds these alone, by their components; one of directories holds what those hold
abbrev pub EntryHoldsFile : Entry → List ℕ → Type 0
EntryHoldsFile (entry.Files files) path = IsTrue (list_any (λ file. path_eq file path) files)
EntryHoldsFile (entry.Directories directories) path = HoldsFile directories path

-- an entry of files holds no directory, one of directories those that are included
abbrev pub EntryHoldsDirectory : Entry → List ℕ → Type 0
EntryHoldsDirectory (entry.Files files) path = ⊥
EntryHoldsDirectory (entry.Directories directories) path = IsIncluded directories path

-- the Rust files below a directory, but for those below some directories in it
abbrev pub rust_files_below : List ℕ → List (List ℕ) → Entry
rust_files_below base excludes =
    entry.Directories
    (record {
      extensions = codes "rs" ∷ [];
      include = base
          ∷ [];
      exclude = map (λ tail. path_text (components_with_tail base tail)) excludes;
    })
