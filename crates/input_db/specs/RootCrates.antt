-- The crates that work on a file may concern: those whose root files are in the same source root.
use Rattle.std.specs.Prelude.{ℕ, Bool, false, ◌==◌, List, [], Option, filter, IsSome}
use Rattle.std.specs.List.{All}
use Rattle.std.specs.Option.{option_and_then, option_map, option_map_or}
use Rattle.input_db_files.specs.Files.{file_root_of}
use Rattle.input_db.specs.Database.{Database}
use Rattle.input_db.specs.Identity.{input_in}

-- the source root of a crate's root file, where it has one
abbrev pub source_root_of : Database → ℕ → Option ℕ
source_root_of db krate =
    option_and_then
    (λ crate_data. option_map (λ place. place.source_root_id) (file_root_of db.files crate_data.root_file_id))
    (option_map (λ input. input.crate_data) (input_in db.crates krate))

-- the root file of each crate that there is now is in a source root
abbrev pub HaveSourceRoots : Database → Type 0
HaveSourceRoots db = All (λ krate. IsSome (source_root_of db krate)) db.listed

-- whether the root file of a crate is in a source root
abbrev pub is_in_root : Database → ℕ → ℕ → Bool
is_in_root db root krate = option_map_or (λ own. own == root) (source_root_of db krate) false

-- the crates that there are now whose root files are in a source root, in order
abbrev pub crates_in_root : Database → ℕ → List ℕ
crates_in_root db root = filter (is_in_root db root) db.listed

-- the crates whose root files are in the source root of a file, where it has one
abbrev pub crates_beside : Database → ℕ → List ℕ
crates_beside db file =
    option_map_or (λ place. crates_in_root db place.source_root_id) (file_root_of db.files file) []
