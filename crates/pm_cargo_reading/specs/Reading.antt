-- What a reading gives: a value, or the first refusal in the order in which a document is checked.
use Rattle.std.specs.Prelude.{◌≡◌, Result, Ok, Err}
use Rattle.pm_cargo_reading.specs.declared.workspace_error.WorkspaceError.{WorkspaceError}
use Rattle.pm_cargo_reading.specs.declared.workspace_error.WorkspaceError.TheVariants.{NotAbsolute, NoParent, UnknownPackage, TooMany, OutOfMemory}
use Rattle.base_text_outside.specs.declared.limits.Limit.{Limit}
use Rattle.base_text_outside.specs.declared.limits.Limit.TheVariants.{Bytes, Paths, Packages, Targets, Crates}

-- a value, or a refusal
abbrev pub Reading : Type 0 → Type 0
Reading T = Result T WorkspaceError

-- a reading is refused with this error; running out of memory says nothing of it
abbrev pub Refuses : {T : Type 0} → WorkspaceError → Reading T → Type 0
Refuses (NotAbsolute text) reading = reading ≡ Err (NotAbsolute text)
Refuses (NoParent text) reading = reading ≡ Err (NoParent text)
Refuses (UnknownPackage id) reading = reading ≡ Err (UnknownPackage id)
Refuses (TooMany limit) reading = reading ≡ Err (TooMany limit)
Refuses OutOfMemory reading = Unit {0}

-- a call returns what the reading gives, unless it runs out of memory
abbrev pub Gives : {T : Type 0} → Result T WorkspaceError → Reading T → Type 0
Gives (Ok x) reading = reading ≡ Ok x
Gives (Err e) reading = Refuses e reading

-- a call leaves what the reading gives, unless it runs out of memory
abbrev pub Leaves : {S : Type 0} → Result (Unit {0}) WorkspaceError → S → Reading S → Type 0
Leaves (Ok u) new reading = reading ≡ Ok new
Leaves (Err e) new reading = Refuses e reading

-- a limit of documents of `cargo metadata`: of packages or of targets
abbrev pub IsMetadataLimit : Limit → Type 0
IsMetadataLimit Bytes = ⊥
IsMetadataLimit Paths = ⊥
IsMetadataLimit Packages = Unit {0}
IsMetadataLimit Targets = Unit {0}
IsMetadataLimit Crates = ⊥

-- the limit that a refusal names, where it names one
abbrev pub NamesMetadataLimit : WorkspaceError → Type 0
NamesMetadataLimit (TooMany limit) = IsMetadataLimit limit
NamesMetadataLimit other = Unit {0}
