-- The page that a database shows: the compact JSON text of one object and a newline, with keys in ascending
-- order.
use Rattle.std.specs.Prelude.{ℕ, Bool, not, Option, List, [], ◌∷◌, ◌++◌, codes, map}
use Rattle.std.specs.Ordering.{nat_cmp}
use Rattle.std.specs.Cmp.Lexicographic.{slice_cmp}
use Rattle.serde_json.specs.Data.{Data, boolean, string, array, object, Items, no_items, item, no_members, member}
use Rattle.serde_json.specs.View.{items_of}
use Rattle.serde_json.specs.Written.{compact_text}
use Rattle.base_values.specs.Sorted.{sorted}
use Rattle.std.specs.List.{filter_map}
use Rattle.std.specs.Option.{option_map}
use Rattle.vfs_sets.specs.FileSet.{path_of}
use Rattle.input_db.specs.Database.{Database}
use Rattle.input_db_files.specs.Files.{source_root_at}
use Rattle.input_db_files.specs.SourceRoot.{files_in, set_of_root}
use Rattle.input_db_files.specs.declared.source_root.SourceRoot.{SourceRoot}
use Rattle.live_page.specs.Entries.{entries_shown}
use Rattle.live_page.specs.declared.crate_entry.CrateEntry.{CrateEntry}
use Rattle.live_page.specs.declared.crate_entry.DependencyEntry.{DependencyEntry}

-- a list of texts
abbrev pub texts_data : List (List ℕ) → Items
texts_data [] = no_items
texts_data (t ∷ ts) = item (string t) (texts_data ts)

-- a dependency of a crate: its name, and the root of the crate that it names
abbrev pub dependency_entry_data : DependencyEntry → Data
dependency_entry_data dep =
    object (member (codes "name") (string dep.name) (member (codes "root") (string dep.root) no_members))

-- an entry: its dependencies, and its root
abbrev pub entry_data : CrateEntry → Data
entry_data entry =
    object (member (codes "deps") (array (items_of (map dependency_entry_data entry.deps)))
    (member (codes "root") (string entry.root) no_members))

-- a set: its files, and whether it is local
abbrev pub set_data : List (List ℕ) → Bool → Data
set_data files is_local =
    object
    (member (codes "files") (array (texts_data files)) (member (codes "local") (boolean is_local) no_members))

-- the whole page: the crates' entries and the sets
abbrev pub page_data : Items → Items → Data
page_data crates sets =
    object (member (codes "crates") (array crates) (member (codes "sets") (array sets) no_members))

-- texts in ascending order of their bytes
abbrev pub sorted_texts : List (List ℕ) → List (List ℕ)
sorted_texts texts = sorted (slice_cmp nat_cmp) texts

-- the numbers of the source roots that the lists of a database name, in order
abbrev pub numbers_listed : Database → List ℕ
numbers_listed db = sorted nat_cmp (db.local.roots.keys ++ db.library.roots.keys)

-- the source root of a number, where it is there
abbrev pub root_shown : Database → ℕ → Option SourceRoot
root_shown db number = option_map (λ input. input.source_root) (source_root_at db.files number)

-- the source roots of the lists, in order of their numbers
abbrev pub roots_listed : Database → List SourceRoot
roots_listed db = filter_map (root_shown db) (numbers_listed db)

-- the path of a file of a source root
abbrev pub path_shown : SourceRoot → ℕ → Option (List ℕ)
path_shown root file = option_map (λ path. path.text) (path_of (set_of_root root) file)

-- the paths of the files of a source root
abbrev pub paths_shown : SourceRoot → List (List ℕ)
paths_shown root = filter_map (path_shown root) (files_in root)

-- the set of a source root, as the page shows it
abbrev pub set_shown : SourceRoot → Data
set_shown root = set_data (sorted_texts (paths_shown root)) (not root.is_library)

-- the data of the page that a database shows: the entries of the crates that it lists, and the sets of its
-- source roots
abbrev pub data_shown : Database → Data
data_shown db =
    page_data (items_of (map entry_data (entries_shown db))) (items_of (map set_shown (roots_listed db)))

-- the page that a database shows
unfoldable pub page_of : Database → List ℕ
page_of db = compact_text (data_shown db) ++ 10 ∷ []
