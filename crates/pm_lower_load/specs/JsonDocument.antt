-- The document of a JSON project as a load reads it: the file at the path, the document in it, and the crates
-- of the document. The order is that of rust-analyzer's `ProjectWorkspace::load`.
use Rattle.std.specs.Prelude.{ℕ, List, codes, if◌then◌else◌, Option, Some, None, Ok, Err}
use Rattle.std.specs.Option.{is_some}
use Rattle.json_fields.specs.Document.{document}
use Rattle.base_text_outside.specs.declared.limits.Limits.{Limits}
use Rattle.pm_json.specs.Project as json
use Rattle.pm_json.specs.declared.project_json.ProjectJson.{ProjectJson, out-ProjectJson}
use Rattle.pm_json.specs.ProjectJsonData.{project_at}
use Rattle.pm_json.specs.declared.project_json_data.ProjectJsonData.{ProjectJsonData, out-ProjectJsonData}
use Rattle.base_values.specs.Outcome.{◌>>=◌}
use Rattle.pm_lower_load.specs.Loading.{Loading, of_document, of_json_reading}
use Rattle.pm_lower_load.specs.declared.load_error.LoadError.TheVariants.{Json, NoSuchFile}
use Rattle.base_text_paths.specs.ManifestPath.{directory_of}
use Rattle.pm_tools_ask.specs.Sysroot.{sysroot_of}
use Rattle.pm_tools_ask.specs.Toolchain.{Toolchain}
use Rattle.base_text.specs.Tree.{TreeFiles, file_text}

-- ---- the document

-- a text, or that there is no file of that path
abbrev pub text_or_missing : List ℕ → Option (List ℕ) → Loading (List ℕ)
text_or_missing path None = Err (NoSuchFile path)
text_or_missing path (Some text) = Ok text

-- the text of the file at the normal path; the refusal has the path as it is given
abbrev pub document_text : TreeFiles → List ℕ → Loading (List ℕ)
document_text files path = text_or_missing path (file_text files path)

-- the document at a path
unfoldable pub document_at : TreeFiles → List ℕ → Loading ProjectJsonData
document_at files path = document_text files path >>= λ text. of_document (document project_at text)

-- the first of the members that state a toolchain, if one does
unfoldable pub toolchain_member : ProjectJsonData → Option (List ℕ)
toolchain_member stated =
    let fields = out-ProjectJsonData stated in
    if is_some fields.sysroot then Some (codes "sysroot")
    else if is_some fields.sysroot_src then Some (codes "sysroot_src")
    else if is_some fields.sysroot_project then Some (codes "sysroot_project")
    else None

-- ---- the project

-- what is read of a document that states no toolchain; one that does is not loaded yet
abbrev pub without_toolchain : {T : Type 0} → Option (List ℕ) → T → Loading T
without_toolchain None x = Ok x
without_toolchain (Some member) x = Err (Json member)

-- the project of a document at a path: what it states is read on the directory of the path, and a toolchain
-- is refused last
unfoldable pub project_of_document : List ℕ → ℕ → ProjectJsonData → Loading ProjectJson
project_of_document path limit stated =
    of_json_reading (json.project_of limit stated (Some path) (directory_of path))
    >>= λ project. without_toolchain (toolchain_member stated) project

-- the project at a path
unfoldable pub json_content : List ℕ → Limits → TreeFiles → Loading ProjectJson
json_content path limits files = do
  stated ← document_at files path
  project ← of_json_reading (json.project_of limits.crates stated (Some path) (directory_of path))
  without_toolchain (toolchain_member stated) project

-- the toolchain that a project states
abbrev pub stated_sysroot : ProjectJson → Toolchain
stated_sysroot project = sysroot_of (out-ProjectJson project).sysroot (out-ProjectJson project).sysroot_src
