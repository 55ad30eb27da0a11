-- what is printed of errors: of a bare version's, the variant's name
use Rattle.std.specs.Prelude.{ℕ, List, ◌++◌, codes}
use Rattle.json_fields.specs.declared.bare.BareError.{BareError}
use Rattle.json_fields.specs.declared.bare.BareError.TheVariants as bare
use Rattle.json_fields.specs.declared.place.ReadError.{ReadError}
use Rattle.json_fields.specs.declared.place.ReadError.TheVariants.{Missed, OutOfMemory}

-- the name of the variant
abbrev pub bare_error_text : BareError → List ℕ
bare_error_text bare.PreRelease = codes "PreRelease"
bare_error_text bare.BuildMetadata = codes "BuildMetadata"
bare_error_text bare.NotVersion = codes "NotVersion"
bare_error_text bare.OutOfMemory = codes "OutOfMemory"

-- the place that does not fit
abbrev pub read_error_text : ReadError → List ℕ
read_error_text (Missed place) = codes "the document does not fit its table: " ++ place
read_error_text OutOfMemory = codes "out of memory"
