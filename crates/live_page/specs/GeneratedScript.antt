-- The script that `generate` runs: the root file of each package, the answer with their metadata, the load, a
-- flush, the deletion of the file of every third package, and a flush. Each line is one compact JSON text.
use Rattle.std.specs.Prelude.{ℕ, ◌%◌, ◌==◌, true, if◌then◌else◌, List, [], ◌∷◌, ◌++◌, codes, decimal, flat_map}
use Rattle.std.specs.List.{range_with_len}
use Rattle.serde_json.specs.Data.{Data, boolean, string, object, Members, no_members}
use Rattle.serde_json.specs.Written.{compact_text}
use Rattle.json_fields.specs.Written.{list_data, set_member}
use Rattle.live_page.specs.Generated.{generated_document, library_path}

-- a value as a line
abbrev pub data_line : Data → List ℕ
data_line d = compact_text d ++ 10 ∷ []

-- ---- events

-- an event with a path
unfoldable pub path_members : List ℕ → List ℕ → Members
path_members event path =
    set_member (codes "path") (string path) (set_member (codes "event") (string event) no_members)

-- the root file of a package, whose text is the package's number
unfoldable pub file_data : ℕ → Data
file_data n =
    object (set_member (codes "text") (string (decimal n)) (path_members (codes "file") (library_path n)))

-- an event that has no more
abbrev pub path_event : List ℕ → List ℕ → Data
path_event event path = object (path_members event path)

-- the deletion of that file
abbrev pub deletion_data : ℕ → Data
deletion_data n = path_event (codes "file") (library_path n)

-- the words that ask for the metadata
abbrev pub metadata_words : List (List ℕ)
metadata_words =
    codes "metadata" ∷ codes "--format-version" ∷ codes "1"
    ∷ codes "--manifest-path" ∷ codes "/g/Cargo.toml" ∷ []

-- the answer with the metadata
unfoldable pub answer_data : ℕ → Data
answer_data count =
    object (set_member (codes "out") (string (generated_document count))
    (set_member (codes "ok") (boolean true)
    (set_member (codes "dir") (string (codes "/g"))
    (set_member (codes "words") (list_data string metadata_words)
    (set_member (codes "program") (string (codes "cargo"))
    (set_member (codes "event") (string (codes "answer")) no_members))))))

-- the load
abbrev pub load_data : Data
load_data = path_event (codes "load") (codes "/g/Cargo.toml")

-- a flush
unfoldable pub flush_data : Data
flush_data = object (set_member (codes "event") (string (codes "flush")) no_members)

-- ---- parts of the script

-- the files of so many packages
abbrev pub files_text : ℕ → List ℕ
files_text count = flat_map (λ n. data_line (file_data n)) (range_with_len 0 count)

-- the deletion of the file of a package, if it is a third one
abbrev pub deletion_text : ℕ → List ℕ
deletion_text n = if n % 3 == 0 then data_line (deletion_data n) else []

-- the deletions
abbrev pub deletions_text : ℕ → List ℕ
deletions_text count = flat_map deletion_text (range_with_len 0 count)

-- the script of so many packages
unfoldable pub generated_script : ℕ → List ℕ
generated_script count =
    files_text count ++ data_line (answer_data count) ++ data_line load_data ++ data_line flush_data
    ++ deletions_text count ++ data_line flush_data
