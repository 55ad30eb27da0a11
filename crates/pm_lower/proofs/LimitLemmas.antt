-- Which limit the refusal of a load names.
use Rattle.std.proofs.Common.{◌≡◌, ℕ, false, List, Option, Some, None, Result, Ok, Err, refl, sym, ap, subst, ◌∙◌}
use Rattle.base_text_outside.specs.declared.limits.Limit.{Limit}
use Rattle.base_text_outside.specs.declared.limits.Limits.{Limits}
use Rattle.cargo_meta.specs.declared.metadata.Metadata.{Metadata}
use Rattle.cargo_meta_values.specs.declared.errors.Error.{Error}
use Rattle.cargo_meta_values.specs.declared.errors.Error.TheVariants as unread
use Rattle.pm_cargo.specs.ReadWorkspace.{read_workspace}
use Rattle.pm_cargo.specs.Workspace.{Workspace}
use Rattle.pm_cargo_config.specs.declared.config.CargoConfig.{CargoConfig}
use Rattle.base_values.specs.Outcome.{◌>>=◌}
use Rattle.pm_lower_load.specs.Loading.{Loading, of_document, of_fetch, of_json_reading, of_reading, IsDocumentLimit, Gives, NamesDocumentLimit}
use Rattle.pm_lower_load.specs.Located.{located_manifest, located_root, manifest_or_located}
use Rattle.pm_lower_load.specs.Metadata.{environment, metadata_answer}
use Rattle.pm_lower_load.specs.ToolAnswers.{tool_answers}
use Rattle.pm_lower.specs.Project.{cargo_project, kind_with, located_project, project_of_workspace, project_with}
use Rattle.pm_lower.specs.ReadProject.{read_project}
use Rattle.json_fields.specs.Document.{document}
use Rattle.json_fields.specs.Outcome as fields
use Rattle.pm_json.specs.Project as json
use Rattle.pm_json.specs.Refusals as refusals
use Rattle.pm_json.specs.declared.project_json.ProjectJson.{ProjectJson}
use Rattle.pm_json.specs.declared.workspace_json_error.WorkspaceJsonError.TheVariants as json_refused
use Rattle.pm_json.specs.ProjectJsonData.{project_at}
use Rattle.pm_lower.specs.DetachedProject.{detached_project, detached_with, metadata_or_none, script_of, script_with}
use Rattle.pm_lower_load.specs.JsonDocument.{document_at, document_text, json_content, project_of_document, text_or_missing, toolchain_member, without_toolchain}
use Rattle.pm_lower.specs.JsonProject.{inline_project, json_project}
use Rattle.pm_lower_load.specs.declared.load_error.LoadError.TheVariants.{TooMany, NoSuchFile, CargoMetadata, Io, Json, NoJson, NotAbsolute, NoParent, UnknownPackage, OutOfMemory}
use Rattle.pm_lower.specs.declared.project_workspace.ProjectWorkspace.{ProjectWorkspace}
use Rattle.pm_lower.specs.declared.project_workspace.ProjectWorkspaceKind.TheVariants.{DetachedFile}
use Rattle.pm_lower.specs.ProjectWorkspace.{ScriptPart}
use Rattle.pm_lower_load.proofs.LoadingLemmas.{load_made}
use Rattle.pm_lower_load.proofs.MadeLemmas.{bind_made}
use Rattle.pm_lower_load.specs.declared.tool_answers.PlatformAsked.TheVariants.{FirstTarget, NoTarget}
use Rattle.pm_lower_load.specs.declared.tool_answers.ToolAnswers.{ToolAnswers}
use Rattle.pm_cargo_reading.specs.Packages.{absolute_manifest}
use Rattle.pm_cargo_reading.specs.Reading.{Reading, IsMetadataLimit}
use Rattle.pm_cargo_reading.specs.declared.workspace_error.WorkspaceError.TheVariants as refused
use Rattle.base_text_paths.specs.ManifestPath.{directory_of}
use Rattle.pm_tools_ask.specs.Ask.{Means}
use Rattle.pm_tools_ask.specs.Sysroot.{empty_sysroot}
use Rattle.pm_tools_ask.specs.Toolchain.{Toolchain}
use Rattle.pm_tools_ask.specs.ConfigEnv.{config_env}
use Rattle.pm_tools_ask.specs.declared.project_manifest.ProjectManifest.{ProjectManifest}
use Rattle.pm_tools_ask.specs.declared.project_manifest.ProjectManifest.TheVariants as given
use Rattle.base_text.specs.Tree.{file_text}
use Rattle.pm_cargo_reading.proofs.LimitLemmas.{Names as NamesRead, names_manifest}
use Rattle.pm_cargo.proofs.LimitLemmas.{names_document}
use Rattle.pm_json.proofs.LimitLemmas.{NamesCrates, names_crates}
use Rattle.base_text_outside.specs.declared.limits.Limit.TheVariants.{Bytes, Paths, Packages, Targets, Crates}
use Rattle.pm_lower_load.specs.declared.load_error.LoadError.{LoadError}
use Rattle.std.specs.Prelude.{IfErr}

-- ---- which limit a refusal names

-- a load that names a limit names one of documents
abbrev Names : {T : Type 0} → Loading T → Type 0
Names l = (limit : Limit) → l ≡ Err (TooMany limit) → IsDocumentLimit limit

names_ok : {T : Type 0} (x : T) → Names (Ok x)
names_ok x limit is = absurd (cc)

names_bind : {A B : Type 0} (step : Loading A) (next : A → Loading B) → Names step → ((x : A) → Names (next x)) → Names (step >>= next)
names_bind (Ok x) next first more limit is = more x limit is
names_bind (Err e) next first more limit is = first limit (let same : e ≡ TooMany limit = cc in ap Err same)

-- a limit of metadata is one of documents
of_metadata : (limit : Limit) → IsMetadataLimit limit → IsDocumentLimit limit
of_metadata Bytes h = absurd h
of_metadata Paths h = absurd h
of_metadata Packages h = tt
of_metadata Targets h = tt
of_metadata Crates h = absurd h

names_reading : {T : Type 0} (r : Reading T) → NamesRead r → Names (of_reading r)
names_reading (Ok x) names limit is = absurd (cc)
names_reading (Err (refused.NotAbsolute text)) names limit is = absurd (cc)
names_reading (Err (refused.NoParent text)) names limit is = absurd (cc)
names_reading (Err (refused.UnknownPackage id)) names limit is = absurd (cc)
names_reading (Err (refused.TooMany other)) names limit is =
    of_metadata limit (names limit (let same : other ≡ limit = cc in ap (λ l. Err (refused.TooMany l)) same))
names_reading (Err refused.OutOfMemory) names limit is = absurd (cc)

names_fetch : {T : Type 0} (r : Result T Error) → Names (of_fetch r)
names_fetch (Ok x) limit is = absurd (cc)
names_fetch (Err (unread.CargoMetadata stderr)) limit is = absurd (cc)
names_fetch (Err (unread.Io line)) limit is = absurd (cc)
names_fetch (Err (unread.Json field)) limit is = absurd (cc)
names_fetch (Err unread.NoJson) limit is = absurd (cc)
names_fetch (Err unread.OutOfMemory) limit is = absurd (cc)

names_text : (path : List ℕ) (text : Option (List ℕ)) → Names (text_or_missing path text)
names_text path None limit is = absurd (cc)
names_text path (Some text) limit is = names_ok text limit is

names_documented : {T : Type 0} (r : fields.Reading T) → Names (of_document r)
names_documented (Ok x) limit is = absurd (cc)
names_documented (Err field) limit is = absurd (cc)

names_json_reading : {T : Type 0} (r : refusals.Reading T) → NamesCrates r → Names (of_json_reading r)
names_json_reading (Ok x) names limit is = absurd (cc)
names_json_reading (Err (json_refused.TooMany other)) names limit is =
    let same : other ≡ limit = cc in
    subst IsDocumentLimit (names other refl ∙ same) tt
names_json_reading (Err (json_refused.NoParent text)) names limit is = absurd (cc)
names_json_reading (Err json_refused.OutOfMemory) names limit is = absurd (cc)

names_plain : (member : Option (List ℕ)) (project : ProjectJson) → Names (without_toolchain member project)
names_plain None project limit is = names_ok project limit is
names_plain (Some member) project limit is = absurd (cc)

names_located : (manifest : List ℕ) (root : Option (List ℕ)) → Names (manifest_or_located manifest root)
names_located manifest None = names_ok manifest
names_located manifest (Some root) = names_reading (absolute_manifest root) (names_manifest root)

module _ (sysroot : Toolchain) (config : CargoConfig) (limits : Limits) (means : Means) where
  names_kind : (manifest : List ℕ) (answers : ToolAnswers) (metadata : Metadata × Option Error) → Names (kind_with manifest config answers limits means metadata)
  unfolding kind_with
  names_kind manifest answers metadata =
      let env = environment answers.config_file config means in
      names_bind (of_reading (read_workspace metadata.0 manifest env false limits)) _
      (names_reading (read_workspace metadata.0 manifest env false limits) (names_document metadata.0 manifest env false limits)) (λ cargo. names_ok _)

  names_project : (manifest : List ℕ) (answers : ToolAnswers) (metadata : Metadata × Option Error) → Names (project_with sysroot manifest config answers limits means metadata)
  unfolding project_with
  names_project manifest answers metadata = names_bind (kind_with manifest config answers limits means metadata) _ (names_kind manifest answers metadata) (λ kind. names_ok _)

  names_fetched : (manifest : List ℕ) → Names (located_project sysroot manifest config limits means)
  unfolding located_project
  names_fetched manifest =
      let answers = tool_answers sysroot manifest FirstTarget config means in
      names_bind (of_fetch (metadata_answer sysroot manifest config answers means)) _ (names_fetch (metadata_answer sysroot manifest config answers means))
      (λ metadata. names_project manifest answers metadata)

  names_cargo : (manifest : List ℕ) → Names (cargo_project sysroot manifest config limits means)
  unfolding cargo_project located_project project_with
  names_cargo manifest =
      names_bind (located_manifest sysroot manifest means) _ (names_located manifest (located_root sysroot manifest means)) (λ located. names_fetched located)

  -- the document of a JSON project
  names_json : (path : List ℕ) → Names (json_project path config limits means)
  unfolding json_project inline_project json_content document_at project_of_document
  names_json path =
      names_bind (json_content path limits means.files) _
      (names_bind (document_at means.files path) _
      (names_bind (document_text means.files path) _ (names_text path (file_text means.files path)) (λ text. names_documented (document project_at text)))
      (λ stated. names_bind (of_json_reading (json.project_of limits.crates stated (Some path) (directory_of path))) _
      (names_json_reading (json.project_of limits.crates stated (Some path) (directory_of path)) (names_crates limits.crates stated (Some path) (directory_of path)))
      (λ project. names_plain (toolchain_member stated) project)))
      (λ project. names_ok _)

  -- a detached file
  names_script : (file : List ℕ) (printed : Option (List ℕ)) (metadata : Option (Metadata × Option Error)) → Names (of_reading (script_with file printed limits means metadata))
  names_script file printed None = names_ok None
  names_script file printed (Some metadata) =
      let reading = read_workspace metadata.0 file (config_env printed means) false limits in
      subst Names (sym (load_made (λ (w : Workspace). Some (script_of metadata.1 w)) reading) ∙ ap of_reading (sym (bind_made (λ (w : Workspace). Some (script_of metadata.1 w)) reading)))
      (names_bind (of_reading reading) _ (names_reading reading (names_document metadata.0 file (config_env printed means) false limits)) (λ cargo. names_ok _))

  names_detached : (file : List ℕ) → Names (of_reading (detached_project sysroot file config limits means))
  unfolding detached_project detached_with
  names_detached file =
      let answers = tool_answers sysroot file NoTarget config means in
      let metadata = metadata_or_none (metadata_answer sysroot file config answers means) in
      let script = script_with file answers.config_file limits means metadata in
      subst Names (sym (load_made (λ (s : Option ScriptPart). project_of_workspace sysroot config answers (DetachedFile file s)) script) ∙ ap of_reading (sym (bind_made (λ (s : Option ScriptPart). project_of_workspace sysroot config answers (DetachedFile file s)) script)))
      (names_bind (of_reading script) _ (names_script file answers.config_file metadata) (λ s. names_ok _))

-- a load that a limit refuses is refused by that of packages, of targets or of crates
pub limit_named : (manifest : ProjectManifest) (config : CargoConfig) (limits : Limits) (means : Means) (limit : Limit)
    → read_project manifest config limits means ≡ Err (TooMany limit) → IsDocumentLimit limit
limit_named (given.ProjectJson path) config limits means = names_json empty_sysroot config limits means path
limit_named (given.CargoToml manifest) config limits means = names_cargo empty_sysroot config limits means manifest
limit_named (given.CargoScript file) config limits means = names_detached empty_sysroot config limits means file

-- the limit that a load names, where it is refused
pub limit_given : (manifest : ProjectManifest) (config : CargoConfig) (limits : Limits) (means : Means) (result : Result ProjectWorkspace LoadError)
    → Gives result (read_project manifest config limits means) → IfErr result NamesDocumentLimit
limit_given manifest config limits means (Ok p) h = tt
limit_given manifest config limits means (Err (NoSuchFile path)) h = tt
limit_given manifest config limits means (Err (CargoMetadata stderr)) h = tt
limit_given manifest config limits means (Err (Io line)) h = tt
limit_given manifest config limits means (Err (Json field)) h = tt
limit_given manifest config limits means (Err NoJson) h = tt
limit_given manifest config limits means (Err (NotAbsolute text)) h = tt
limit_given manifest config limits means (Err (NoParent text)) h = tt
limit_given manifest config limits means (Err (UnknownPackage id)) h = tt
limit_given manifest config limits means (Err (TooMany limit)) h = limit_named manifest config limits means limit h
limit_given manifest config limits means (Err OutOfMemory) h = tt
