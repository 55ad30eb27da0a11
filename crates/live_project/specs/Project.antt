-- A project of a session: what its load kept, and what was read of it. The rules of reading are those of
-- `read_project`; a load reads the manifest that its path names. From rust-analyzer's
-- `ProjectManifest::from_manifest_file` and `ProjectWorkspace::load`.
use Rattle.std.specs.Prelude.{◌≡◌, refl, ℕ, ◌+◌, ◌<◌, ◌^◌, List, length, codes, Option, Some, None, Result, Ok, Err}
use Rattle.std.specs.Coded.{Coded, code_by, coded×}
use Rattle.std.specs.Option.{option_and_then}
use Rattle.base_text_paths.specs.Paths.{if_absolute}
use Rattle.pm_lower_load.specs.Loading.{Loading, NamesDocumentLimit}
use Rattle.pm_lower.specs.ReadProject.{read_project}
use Rattle.pm_lower.specs.ToRoots.{HasNoRustc}
use Rattle.pm_lower.specs.contracts.project_workspace.ProjectWorkspace as read
use Rattle.pm_lower_load.specs.declared.load_error.LoadError.{LoadError}
use Rattle.pm_lower_load.specs.declared.load_error.LoadError.TheVariants as load
use Rattle.pm_lower.specs.declared.project_workspace.ProjectWorkspace.{ProjectWorkspace}
use Rattle.pm_tools_ask.specs.Manifest.{manifest_of}
use Rattle.pm_tools_ask.specs.declared.project_manifest.ProjectManifest.{ProjectManifest}
use Rattle.live_project.specs.Roots.{roots_of_project}
use Rattle.live_project.specs.Sources.{means_of_sources}
use Rattle.live_project.specs.contracts.sources.Sources as kept
use Rattle.live_project.specs.declared.project_error.ProjectError.{ProjectError}
use Rattle.live_project.specs.declared.project_error.ProjectError.TheVariants.{BadManifest, Refused, OutOfMemory}
use Rattle.live_project.specs.declared.sources.Sources.{Sources}

-- a project: what its load kept, and what was read of that
pub record ProjectContent : Type 0 where
  pub sources : Sources
  pub workspace : ProjectWorkspace

-- both are stored side by side
abbrev pub project_code : Coded ProjectContent
project_code =
    code_by (Sources × ProjectWorkspace) (coded× kept.the_row.coded read.the_row.coded)
    (λ p. (p.sources, p.workspace)) (λ p. record { sources = p.0; workspace = p.1 }) (λ _. refl)

-- ---- the manifest

-- the path of a text, which is cleaned and keeps each `..`, where the text begins with `/`
abbrev pub path_of_text : List ℕ → Option (List ℕ)
path_of_text text = if_absolute text (λ path. Some path) None

-- the manifest that a text names
unfoldable pub manifest_named : List ℕ → Option ProjectManifest
manifest_named text = option_and_then manifest_of (path_of_text text)

-- ---- reading

-- why a project is not read, as why a session has none
abbrev pub of_load_error : LoadError → ProjectError
of_load_error load.OutOfMemory = OutOfMemory
of_load_error error = Refused error

-- what is read of a manifest, with the refusal as one of a session's load
abbrev pub of_loading : Loading ProjectWorkspace → Result ProjectWorkspace ProjectError
of_loading (Ok workspace) = Ok workspace
of_loading (Err error) = Err (of_load_error error)

-- what is read of a manifest, where the path names one
abbrev pub read_named : Sources → Option ProjectManifest → Result ProjectWorkspace ProjectError
read_named s None = Err (BadManifest s.path)
read_named s (Some manifest) =
    of_loading (read_project manifest s.config.cargo s.config.limits (means_of_sources s))

-- what a load reads of what it keeps, or its first refusal
unfoldable pub read_sources : Sources → Result ProjectWorkspace ProjectError
read_sources s = read_named s (manifest_named s.path)

-- ---- a call that loads

-- a load is refused with this error; running out of memory says nothing of it
abbrev pub Refuses : ProjectError → Result ProjectWorkspace ProjectError → Type 0
Refuses (BadManifest text) reading = reading ≡ Err (BadManifest text)
Refuses (Refused error) reading = reading ≡ Err (Refused error)
Refuses OutOfMemory reading = Unit {0}

-- a call gives the project of what is read of what it keeps, or the refusal
abbrev pub Loads : Sources → Result ProjectWorkspace ProjectError → Result ProjectContent ProjectError
    → Type 0
Loads s reading (Ok project) = (project.sources ≡ s) × (reading ≡ Ok project.workspace)
Loads s reading (Err error) = Refuses error reading

-- the limit that a refused load of a session names, where it names one
abbrev pub NamesLoadLimit : ProjectError → Type 0
NamesLoadLimit (BadManifest text) = Unit {0}
NamesLoadLimit (Refused error) = NamesDocumentLimit error
NamesLoadLimit OutOfMemory = Unit {0}

-- the name of the variant, which is what is printed
abbrev pub project_error_name : ProjectError → List ℕ
project_error_name (BadManifest text) = codes "BadManifest"
project_error_name (Refused error) = codes "Refused"
project_error_name OutOfMemory = codes "OutOfMemory"

-- ---- what every project keeps

-- no crates of the compiler were read beside it, and there are few enough roots for a flush, which gives each
-- a number of 32 bits
pub record IsLoaded (p : ProjectContent) : Type 0 where
  pub no_rustc : HasNoRustc p.workspace
  pub few : length (roots_of_project p.workspace) + 1 < 2 ^ 32
