-- What contracts see of a database: its files, which of its roots are local and which are libraries, its
-- nonce, and its crates.
use Rattle.std.specs.Prelude.{ℕ, ◌<◌, List, [], Option, Some, None, if◌then◌else◌, length, refl}
use Rattle.std.specs.Coded.{Coded, code_by, coded×, coded_list, coded_ℕ}
use Rattle.std.specs.List.{All}
use Rattle.base_text_outside.specs.Causes.{next_count}
use Rattle.input_db_files.specs.Files.{FileTables, file_tables_code, no_file_tables}
use Rattle.input_db.specs.Identity.{IsTable, Table, input_eq, input_under, with_entry}
use Rattle.input_db.specs.contracts.crate_input.CrateInput as input
use Rattle.input_db.specs.contracts.crate_input.UniqueCrateData as unique
use Rattle.input_db_files.specs.contracts.durability.Durability as durability
use Rattle.input_db_files.specs.contracts.roots.LibraryRoots as libraries
use Rattle.input_db_files.specs.contracts.roots.LocalRoots as locals
use Rattle.input_db.specs.declared.crate_input.CrateInput.{CrateInput}
use Rattle.input_db.specs.declared.crate_input.UniqueCrateData.{UniqueCrateData}
use Rattle.input_db_files.specs.declared.durability.Durability.{Durability}
use Rattle.input_db_files.specs.declared.durability.Durability.TheVariants.{Low}
use Rattle.input_db_files.specs.declared.roots.LocalRoots.{LocalRoots}
use Rattle.input_db_files.specs.declared.roots.LibraryRoots.{LibraryRoots}

-- what a database holds
pub record Database : Type 0 where
  pub files : FileTables
  -- the roots that are worked on, by number
  pub local : LocalRoots
  -- the roots that are libraries, by number
  pub library : LibraryRoots
  -- what distinguishes the database from others
  pub nonce : ℕ
  -- all crates that were ever given, each at its number
  pub crates : Table
  -- the crates that there are now, by number
  pub listed : List ℕ
  -- how durable that list is
  pub listed_durability : Durability
  -- how often a crate was new or changed, or the list was stored, up to the greatest number of 64 bits
  pub writes : ℕ

-- what every database keeps: its crates are a table, and it lists crates of that alone
pub record ListsOwnCrates (crates : Table) (listed : List ℕ) : Type 0 where
  pub table : IsTable crates
  pub known : All (λ krate. krate < length crates) listed

-- the crates of a database are stored as their parts
abbrev pub crates_code : Coded (Table × (List ℕ × (Durability × ℕ)))
crates_code =
    coded× (coded_list (coded× unique.the_row.coded input.the_row.coded))
    (coded× (coded_list coded_ℕ) (coded× durability.the_row.coded coded_ℕ))

-- a database is stored as its parts
abbrev pub database_code : Coded Database
database_code =
    code_by (FileTables × (LocalRoots × (LibraryRoots × (ℕ × (Table × (List ℕ × (Durability × ℕ)))))))
    (coded× file_tables_code
    (coded× locals.the_row.coded (coded× libraries.the_row.coded (coded× coded_ℕ crates_code))))
    (λ d. (d.files, (d.local, (d.library, (d.nonce, (d.crates, (d.listed, (d.listed_durability, d.writes))))))))
    (λ p. record {
      files = p.0;
      local = p.1.0;
      library = p.1.1.0;
      nonce = p.1.1.1.0;
      crates = p.1.1.1.1.0;
      listed = p.1.1.1.1.1.0;
      listed_durability = p.1.1.1.1.1.1.0;
      writes = p.1.1.1.1.1.1.1;
    }) (λ _. refl)

-- a list of local roots, by their numbers
abbrev pub local_numbers : List ℕ → LocalRoots
local_numbers numbers = record { roots = record { keys = numbers } }

-- a list of libraries, by their numbers
abbrev pub library_numbers : List ℕ → LibraryRoots
library_numbers numbers = record { roots = record { keys = numbers } }

-- a database of no files and no crates
abbrev pub empty_database : ℕ → Database
empty_database nonce = record {
  files = no_file_tables;
  local = local_numbers [];
  library = library_numbers [];
  nonce = nonce;
  crates = [];
  listed = [];
  listed_durability = Low;
  writes = 0;
}

-- the database with other files
abbrev pub with_files : Database → FileTables → Database
with_files db files = record db { files = files }

-- the database with other lists of roots
abbrev pub with_lists : Database → LocalRoots → LibraryRoots → Database
with_lists db local library = record db { local = local; library = library }

-- how many writes there were when an identity's crate is given an input: one more where the crate is new, or
-- had another
abbrev pub writes_after : ℕ → Option CrateInput → CrateInput → ℕ
writes_after writes None input = next_count writes
writes_after writes (Some old) input = if input_eq old input then writes else next_count writes

-- the database with an input for the crate of an identity
abbrev pub with_crate_input : Database → UniqueCrateData → CrateInput → Database
with_crate_input db unique input = record db {
  crates = with_entry db.crates unique input;
  writes = writes_after db.writes (input_under db.crates unique) input;
}

-- the database with another list of crates
abbrev pub with_crate_list : Database → List ℕ → Durability → Database
with_crate_list db crates durability = record db {
  listed = crates;
  listed_durability = durability;
  writes = next_count db.writes;
}
