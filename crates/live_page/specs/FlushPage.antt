-- The page of files that are placed by roots, and of crates' entries, whatever a database calls them.
use Rattle.std.specs.Prelude.{ℕ, ◌==◌, List, [], ◌∷◌, ◌++◌, map}
use Rattle.std.specs.List.{filter}
use Rattle.serde_json.specs.Data.{Data}
use Rattle.serde_json.specs.View.{items_of}
use Rattle.serde_json.specs.Written.{compact_text}
use Rattle.vfs_core.specs.VfsPath.{PathContent}
use Rattle.vfs_sets.specs.Placement.{place_of}
use Rattle.live_page.specs.Page.{entry_data, page_data, set_data, sorted_texts}
use Rattle.live_page.specs.declared.crate_entry.CrateEntry.{CrateEntry}
use Rattle.vfs_sets.specs.FileRoots.{is_local_at, root_lists, set_numbers}
use Rattle.vfs_sets.specs.declared.file_root.FileRoot.{FileRoot}

-- the paths of the set of a number
abbrev pub paths_at : List FileRoot → List PathContent → ℕ → List PathContent
paths_at roots paths number = filter (λ path. place_of (root_lists roots) path == number) paths

-- a set as the page shows it
abbrev pub set_data_at : List FileRoot → List PathContent → ℕ → Data
set_data_at roots paths number =
    set_data (sorted_texts (map (λ path. path.text) (paths_at roots paths number))) (is_local_at roots number)

-- the page of these entries, and of these paths by their sets
unfoldable pub page_of_entries : List FileRoot → List PathContent → List CrateEntry → List ℕ
page_of_entries roots paths entries =
    compact_text
    (page_data (items_of (map entry_data entries)) (items_of (map (set_data_at roots paths) (set_numbers roots))))
    ++ 10 ∷ []
