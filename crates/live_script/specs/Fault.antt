-- The errors of a run: their numbers, their texts, and which of them a session gives.
use Rattle.std.specs.Prelude.{◌≡◌, ℕ, ◌≤◌, true, nat_eq, List, [], ◌∷◌, ◌++◌, Option, Some, None, codes, decimal}
use Rattle.std.specs.List.{list_any}
use Rattle.base_text_outside.specs.declared.limits.Limit.{Limit}
use Rattle.base_text_outside.specs.declared.limits.Limit.TheVariants.{Bytes, Paths, Packages, Targets, Crates}
use Rattle.live_page.specs.declared.lines.LineError.{LineError}
use Rattle.live_page.specs.declared.lines.LineError.TheVariants.{ReadFault as ReadFault', TooMany as TooMany', OutOfMemory as OutOfMemory', Ended as Ended'}
use Rattle.live_project.specs.declared.project_error.ProjectError.{ProjectError}
use Rattle.live_project.specs.declared.project_error.ProjectError.TheVariants as project
use Rattle.pm_tools.specs.declared.build_error.BuildError.{BuildError}
use Rattle.pm_tools.specs.declared.build_error.BuildError.TheVariants as build
use Rattle.pm_lower_load.specs.declared.load_error.LoadError.{LoadError}
use Rattle.pm_lower_load.specs.declared.load_error.LoadError.TheVariants as load
use Rattle.pm_lower_crates.specs.declared.lower_error.LowerError.{LowerError}
use Rattle.pm_lower_crates.specs.declared.lower_error.LowerError.TheVariants as lower
use Rattle.live_script.specs.declared.fault.LiveError.{LiveError}
use Rattle.live_script.specs.declared.fault.LiveError.TheVariants.{OutOfMemory, Usage, ReadFault, WriteFault, Script, BadManifest, NoSuchFile, Io, CargoMetadata, NoJson, Json, NotAbsolute, UnknownPackage, BadCrateName, NoParent, NoCargoProject, TooMany}
use Rattle.live_script.specs.declared.fault.StepError.{StepError}
use Rattle.live_script.specs.declared.fault.StepError.TheVariants.{Refused, Ended}

-- the exit status
abbrev pub status_of : LiveError → ℕ
status_of OutOfMemory = 1
status_of Usage = 2
status_of ReadFault = 3
status_of WriteFault = 4
status_of (Script line) = 5
status_of (BadManifest path) = 6
status_of (NoSuchFile path) = 7
status_of (Io line) = 8
status_of (CargoMetadata stderr) = 9
status_of NoJson = 10
status_of (Json field) = 11
status_of (NotAbsolute text) = 12
status_of (UnknownPackage id) = 13
status_of (BadCrateName name) = 14
status_of (NoParent text) = 15
status_of NoCargoProject = 16
status_of (TooMany limit) = 17

-- the name of what there is too much of
abbrev pub limit_name : Limit → List ℕ
limit_name Bytes = codes "bytes"
limit_name Paths = codes "paths"
limit_name Packages = codes "packages"
limit_name Targets = codes "targets"
limit_name Crates = codes "crates"

-- the text that reports an error, for a command whose usage text this is
unfoldable pub live_error_text : List ℕ → LiveError → List ℕ
live_error_text usage OutOfMemory = codes "out of memory"
live_error_text usage Usage = usage
live_error_text usage ReadFault = codes "read fault"
live_error_text usage WriteFault = codes "write fault"
live_error_text usage (Script line) = codes "script line " ++ decimal line
live_error_text usage (BadManifest path) = codes "bad manifest: " ++ path
live_error_text usage (NoSuchFile path) = codes "no such file: " ++ path
live_error_text usage (Io line) = codes "cannot start: " ++ line
live_error_text usage (CargoMetadata stderr) = codes "cargo metadata failed: " ++ stderr
live_error_text usage NoJson = codes "no json in the metadata answer"
live_error_text usage (Json field) = codes "bad json at " ++ field
live_error_text usage (NotAbsolute text) = codes "not absolute: " ++ text
live_error_text usage (UnknownPackage id) = codes "unknown package: " ++ id
live_error_text usage (BadCrateName name) = codes "bad crate name: " ++ name
live_error_text usage (NoParent text) = codes "no parent: " ++ text
live_error_text usage NoCargoProject = codes "no cargo project"
live_error_text usage (TooMany limit) = codes "too many " ++ limit_name limit

-- the name that an error prints
abbrev pub live_error_name : LiveError → List ℕ
live_error_name OutOfMemory = codes "OutOfMemory"
live_error_name Usage = codes "Usage"
live_error_name ReadFault = codes "ReadFault"
live_error_name WriteFault = codes "WriteFault"
live_error_name (Script line) = codes "Script"
live_error_name (BadManifest path) = codes "BadManifest"
live_error_name (NoSuchFile path) = codes "NoSuchFile"
live_error_name (Io line) = codes "Io"
live_error_name (CargoMetadata stderr) = codes "CargoMetadata"
live_error_name NoJson = codes "NoJson"
live_error_name (Json field) = codes "Json"
live_error_name (NotAbsolute text) = codes "NotAbsolute"
live_error_name (UnknownPackage id) = codes "UnknownPackage"
live_error_name (BadCrateName name) = codes "BadCrateName"
live_error_name (NoParent text) = codes "NoParent"
live_error_name NoCargoProject = codes "NoCargoProject"
live_error_name (TooMany limit) = codes "TooMany"

-- the name that a step's error prints
abbrev pub step_error_text : StepError → List ℕ
step_error_text (Refused error) = codes "Refused"
step_error_text Ended = codes "Ended"

-- ---- refusals of the crates below

-- why a project is not read
abbrev pub live_error_of_load : LoadError → LiveError
live_error_of_load (load.NoSuchFile path) = NoSuchFile path
live_error_of_load (load.CargoMetadata stderr) = CargoMetadata stderr
live_error_of_load (load.Io line) = Io line
live_error_of_load (load.Json field) = Json field
live_error_of_load load.NoJson = NoJson
live_error_of_load (load.NotAbsolute text) = NotAbsolute text
live_error_of_load (load.NoParent text) = NoParent text
live_error_of_load (load.UnknownPackage id) = UnknownPackage id
live_error_of_load (load.TooMany limit) = TooMany limit
live_error_of_load load.OutOfMemory = OutOfMemory

-- why no project is loaded
abbrev pub of_project_error : ProjectError → LiveError
of_project_error (project.BadManifest path) = BadManifest path
of_project_error (project.Refused error) = live_error_of_load error
of_project_error project.OutOfMemory = OutOfMemory

-- why a build gives no outputs
abbrev pub of_build_error : BuildError → LiveError
of_build_error (build.Io line) = Io line
of_build_error (build.NotAbsolute text) = NotAbsolute text
of_build_error build.OutOfMemory = OutOfMemory

-- why a project has no crates
abbrev pub of_lower_error : LowerError → LiveError
of_lower_error (lower.BadCrateName name) = BadCrateName name
of_lower_error (lower.TooMany limit) = TooMany limit
of_lower_error lower.OutOfMemory = OutOfMemory

-- the error of a run whose line was not given; a run ends with its first error, so that no reader of its own
-- has ended before
abbrev pub fault_of : LineError → Option LiveError
fault_of ReadFault' = Some ReadFault
fault_of TooMany' = Some (TooMany Bytes)
fault_of OutOfMemory' = Some OutOfMemory
fault_of Ended' = None

-- ---- statuses

-- the errors that a session gives, each a refusal of the script: those of status 5 and above
abbrev pub IsRefusal : LiveError → Type 0
IsRefusal error = 5 ≤ status_of error

-- a status is one of these
abbrev pub IsOneOf : List ℕ → ℕ → Type 0
IsOneOf statuses status = list_any (nat_eq status) statuses ≡ true

-- the statuses of the errors that a flush may give
abbrev pub flush_statuses : List ℕ
flush_statuses = 1 ∷ 4 ∷ 14 ∷ 17 ∷ []

-- those of a load
abbrev pub load_statuses : List ℕ
load_statuses = 1 ∷ 6 ∷ 7 ∷ 8 ∷ 9 ∷ 10 ∷ 11 ∷ 12 ∷ 13 ∷ 15 ∷ 17 ∷ []

-- those of the errors of one event
abbrev pub turn_statuses : List ℕ
turn_statuses = 1 ∷ 4 ∷ 6 ∷ 7 ∷ 8 ∷ 9 ∷ 10 ∷ 11 ∷ 12 ∷ 13 ∷ 14 ∷ 15 ∷ 16 ∷ 17 ∷ []

-- those of reading lines
abbrev pub line_statuses : List ℕ
line_statuses = 1 ∷ 4 ∷ 5 ∷ 6 ∷ 7 ∷ 8 ∷ 9 ∷ 10 ∷ 11 ∷ 12 ∷ 13 ∷ 14 ∷ 15 ∷ 16 ∷ 17 ∷ []

-- those of a run over a script
abbrev pub run_statuses : List ℕ
run_statuses = 1 ∷ 3 ∷ 4 ∷ 5 ∷ 6 ∷ 7 ∷ 8 ∷ 9 ∷ 10 ∷ 11 ∷ 12 ∷ 13 ∷ 14 ∷ 15 ∷ 16 ∷ 17 ∷ []

-- those of the words
abbrev pub word_statuses : List ℕ
word_statuses = 1 ∷ 2 ∷ 3 ∷ 4 ∷ 5 ∷ 6 ∷ 7 ∷ 8 ∷ 9 ∷ 10 ∷ 11 ∷ 12 ∷ 13 ∷ 14 ∷ 15 ∷ 16 ∷ 17 ∷ []

-- all statuses: those of a run, of success and of wrong words
abbrev pub all_statuses : List ℕ
all_statuses = 0 ∷ 2 ∷ run_statuses
