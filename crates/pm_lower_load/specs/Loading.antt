-- What a load gives: a project, or the first refusal in the order of its questions; and what is printed of a
-- refusal.
use Rattle.std.specs.Prelude.{◌≡◌, ℕ, List, codes, Result, Ok, Err}
use Rattle.cargo_meta_values.specs.declared.errors.Error as metadata
use Rattle.cargo_meta_values.specs.declared.errors.Error.TheVariants as unread
use Rattle.json_fields.specs.Outcome as fields
use Rattle.json_fields.specs.declared.place.ReadError.{ReadError}
use Rattle.json_fields.specs.declared.place.ReadError.TheVariants as missed
use Rattle.pm_json.specs.Refusals as json
use Rattle.pm_json.specs.declared.workspace_json_error.WorkspaceJsonError.{WorkspaceJsonError}
use Rattle.pm_json.specs.declared.workspace_json_error.WorkspaceJsonError.TheVariants as json_refused
use Rattle.pm_lower_load.specs.declared.load_error.LoadError.{LoadError}
use Rattle.pm_lower_load.specs.declared.load_error.LoadError.TheVariants.{NoSuchFile, CargoMetadata, Io, Json, NoJson, NotAbsolute, NoParent, UnknownPackage, TooMany, OutOfMemory}
use Rattle.pm_cargo_reading.specs.Reading.{Reading}
use Rattle.pm_cargo_reading.specs.declared.workspace_error.WorkspaceError.{WorkspaceError}
use Rattle.pm_cargo_reading.specs.declared.workspace_error.WorkspaceError.TheVariants as refused
use Rattle.base_text_outside.specs.declared.limits.Limit.{Limit}
use Rattle.base_text_outside.specs.declared.limits.Limit.TheVariants.{Bytes, Paths, Packages, Targets, Crates}

-- what is loaded, or a refusal
abbrev pub Loading : Type 0 → Type 0
Loading T = Result T LoadError

-- why a document is read as no workspace, as a refusal of a load
abbrev pub of_workspace_error : WorkspaceError → LoadError
of_workspace_error (refused.NotAbsolute text) = NotAbsolute text
of_workspace_error (refused.NoParent text) = NoParent text
of_workspace_error (refused.UnknownPackage id) = UnknownPackage id
of_workspace_error (refused.TooMany limit) = TooMany limit
of_workspace_error refused.OutOfMemory = OutOfMemory

-- why no metadata was read, as a refusal of a load
abbrev pub of_metadata_error : metadata.Error → LoadError
of_metadata_error (unread.CargoMetadata stderr) = CargoMetadata stderr
of_metadata_error (unread.Io line) = Io line
of_metadata_error (unread.Json field) = Json field
of_metadata_error unread.NoJson = NoJson
of_metadata_error unread.OutOfMemory = OutOfMemory

-- why a document is read as no table's value, as a refusal of a load
abbrev pub of_read_error : ReadError → LoadError
of_read_error (missed.Missed field) = Json field
of_read_error missed.OutOfMemory = OutOfMemory

-- why a document's crates are read as no project, as a refusal of a load
abbrev pub of_json_error : WorkspaceJsonError → LoadError
of_json_error (json_refused.TooMany limit) = TooMany limit
of_json_error (json_refused.NoParent text) = NoParent text
of_json_error json_refused.OutOfMemory = OutOfMemory

-- a reading, as a part of a load
abbrev pub of_reading : {T : Type 0} → Reading T → Loading T
of_reading (Ok x) = Ok x
of_reading (Err e) = Err (of_workspace_error e)

-- what was fetched, as a part of a load
abbrev pub of_fetch : {T : Type 0} → Result T metadata.Error → Loading T
of_fetch (Ok x) = Ok x
of_fetch (Err e) = Err (of_metadata_error e)

-- a document that its table reads, as a part of a load; the refusal has the first place that it misses
abbrev pub of_document : {T : Type 0} → fields.Reading T → Loading T
of_document (Ok x) = Ok x
of_document (Err field) = Err (Json field)

-- the reading of a document's crates, as a part of a load
abbrev pub of_json_reading : {T : Type 0} → json.Reading T → Loading T
of_json_reading (Ok x) = Ok x
of_json_reading (Err e) = Err (of_json_error e)

-- a load is refused with this error; running out of memory says nothing of it
abbrev pub Refuses : {T : Type 0} → LoadError → Loading T → Type 0
Refuses (NoSuchFile path) loading = loading ≡ Err (NoSuchFile path)
Refuses (CargoMetadata stderr) loading = loading ≡ Err (CargoMetadata stderr)
Refuses (Io line) loading = loading ≡ Err (Io line)
Refuses (Json field) loading = loading ≡ Err (Json field)
Refuses NoJson loading = loading ≡ Err NoJson
Refuses (NotAbsolute text) loading = loading ≡ Err (NotAbsolute text)
Refuses (NoParent text) loading = loading ≡ Err (NoParent text)
Refuses (UnknownPackage id) loading = loading ≡ Err (UnknownPackage id)
Refuses (TooMany limit) loading = loading ≡ Err (TooMany limit)
Refuses OutOfMemory loading = Unit {0}

-- a call returns what the load gives, unless it runs out of memory
abbrev pub Gives : {T : Type 0} → Result T LoadError → Loading T → Type 0
Gives (Ok x) loading = loading ≡ Ok x
Gives (Err e) loading = Refuses e loading

-- the name of the variant, which is what is printed of a refusal
abbrev pub load_error_name : LoadError → List ℕ
load_error_name (NoSuchFile path) = codes "NoSuchFile"
load_error_name (CargoMetadata stderr) = codes "CargoMetadata"
load_error_name (Io line) = codes "Io"
load_error_name (Json field) = codes "Json"
load_error_name NoJson = codes "NoJson"
load_error_name (NotAbsolute text) = codes "NotAbsolute"
load_error_name (NoParent text) = codes "NoParent"
load_error_name (UnknownPackage id) = codes "UnknownPackage"
load_error_name (TooMany limit) = codes "TooMany"
load_error_name OutOfMemory = codes "OutOfMemory"

-- a limit by which documents are counted: of packages, targets or crates
abbrev pub IsDocumentLimit : Limit → Type 0
IsDocumentLimit Bytes = ⊥
IsDocumentLimit Paths = ⊥
IsDocumentLimit Packages = Unit {0}
IsDocumentLimit Targets = Unit {0}
IsDocumentLimit Crates = Unit {0}

-- the limit that a refused load names, where it names one
abbrev pub NamesDocumentLimit : LoadError → Type 0
NamesDocumentLimit (TooMany limit) = IsDocumentLimit limit
NamesDocumentLimit other = Unit {0}
