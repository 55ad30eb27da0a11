-- why metadata was not had, and what is printed of it: the texts of the crate `cargo_metadata`
use Rattle.std.specs.Prelude.{◌≡◌, ◌++◌, ℕ, List, codes, Result, Ok, Err}
use Rattle.json_fields.specs.Outcome.{Reading}
use Rattle.cargo_meta_values.specs.declared.errors.Error.{Error}
use Rattle.cargo_meta_values.specs.declared.errors.Error.TheVariants.{CargoMetadata, Io, Json, NoJson, OutOfMemory}

-- the text that is printed
abbrev pub metadata_error_text : Error → List ℕ
metadata_error_text (CargoMetadata stderr) = codes "`cargo metadata` exited with an error: " ++ stderr
metadata_error_text (Io line) = codes "failed to start `cargo metadata`: " ++ line
metadata_error_text (Json field) = codes "failed to interpret `cargo metadata`'s json: " ++ field
metadata_error_text NoJson = codes "could not find any json in the output of `cargo metadata`"
metadata_error_text OutOfMemory = codes "out of memory"

-- a call answers what the document's reader gives, unless memory ran out
abbrev pub GivesDocument : {T : Type 0} → Result T Error → Reading T → Type 0
GivesDocument (Ok x) reading = reading ≡ Ok x
GivesDocument (Err (CargoMetadata stderr)) reading = ⊥
GivesDocument (Err (Io line)) reading = ⊥
GivesDocument (Err (Json field)) reading = reading ≡ Err field
GivesDocument (Err NoJson) reading = ⊥
GivesDocument (Err OutOfMemory) reading = Unit {0}
