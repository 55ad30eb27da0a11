-- How large a project that a load gives is.
use Rattle.std.proofs.Common.{◌≡◌, ℕ, ◌+◌, ◌≤◌, false, List, [], ◌∷◌, ◌++◌, Option, Some, None, Ok, Err, length, refl, sym, ap, subst, ◌∙◌, arith, length-append, Result}
use Rattle.base_text_outside.specs.declared.limits.Limits.{Limits}
use Rattle.cargo_meta.specs.declared.metadata.Metadata.{Metadata}
use Rattle.cargo_meta_values.specs.declared.errors.Error.{Error}
use Rattle.pm_cargo.specs.ReadWorkspace.{read_workspace}
use Rattle.pm_cargo.specs.Workspace.{Workspace}
use Rattle.pm_cargo_config.specs.declared.config.CargoConfig.{CargoConfig}
use Rattle.base_values.specs.Outcome.{◌>>=◌}
use Rattle.pm_lower_load.specs.Loading.{of_fetch, of_json_reading, of_reading, Gives}
use Rattle.pm_lower_load.specs.Located.{located_manifest}
use Rattle.pm_lower_load.specs.Metadata.{environment, metadata_answer}
use Rattle.pm_lower_load.specs.ToolAnswers.{compiler_answers, tool_answers}
use Rattle.pm_lower.specs.Project.{cargo_project, kind_of_project, kind_with, located_project, project_of_workspace, project_with}
use Rattle.pm_lower.specs.ReadProject.{read_project}
use Rattle.pm_json.specs.Project as json
use Rattle.pm_json.specs.Queries as queries
use Rattle.pm_json.specs.Refusals as refusals
use Rattle.pm_json.specs.declared.project_json.ProjectJson.{ProjectJson}
use Rattle.pm_lower.specs.Builds.{no_scripts}
use Rattle.pm_lower.specs.DetachedProject.{detached_project, detached_with, metadata_or_none, script_of, script_with}
use Rattle.pm_lower_load.specs.JsonDocument.{document_at, json_content, project_of_document, stated_sysroot, toolchain_member, without_toolchain}
use Rattle.pm_lower.specs.JsonProject.{inline_project, json_project}
use Rattle.pm_lower.specs.ProjectWorkspace.{ScriptPart, script_workspace}
use Rattle.pm_lower.specs.ToRoots.{KindHasNoRustc, kind_roots, library_roots, out_dir_at, library_source_root, sysroot_roots}
use Rattle.pm_lower.specs.declared.project_workspace.ProjectWorkspace.{ProjectWorkspace}
use Rattle.pm_lower.specs.declared.project_workspace.ProjectWorkspaceKind.{ProjectWorkspaceKind}
use Rattle.pm_lower.specs.declared.project_workspace.ProjectWorkspaceKind.TheVariants.{Json, DetachedFile}
use Rattle.pm_lower_load.specs.declared.tool_answers.PlatformAsked.TheVariants.{FirstTarget, NoTarget}
use Rattle.pm_lower_load.specs.declared.tool_answers.ToolAnswers.{ToolAnswers}
use Rattle.pm_lower_load.proofs.LoadingLemmas.{load_made}
use Rattle.pm_lower_load.proofs.MadeLemmas.{bind_made}
use Rattle.pm_cargo_reading.specs.Reading.{Reading}
use Rattle.base_text_paths.specs.ManifestPath.{directory_of}
use Rattle.pm_tools_ask.specs.Ask.{Means}
use Rattle.pm_tools_ask.specs.Sysroot.{empty_sysroot}
use Rattle.pm_tools_ask.specs.Toolchain.{Toolchain}
use Rattle.pm_tools_ask.specs.declared.rust_lib_src.RustLibSrcWorkspace.{RustLibSrcWorkspace}
use Rattle.pm_tools_ask.specs.declared.rust_lib_src.RustLibSrcWorkspace.TheVariants.{Empty}
use Rattle.pm_tools_ask.specs.ConfigEnv.{config_env}
use Rattle.pm_tools_ask.specs.declared.project_manifest.ProjectManifest.{ProjectManifest}
use Rattle.pm_tools_ask.specs.declared.project_manifest.ProjectManifest.TheVariants as given
use Rattle.pm_cargo.proofs.LimitLemmas.{document_few}
use Rattle.pm_json.proofs.LimitLemmas.{few_in_project}
use Rattle.pm_lower_load.proofs.RootCounts.{as_many, few_distinct}
use Rattle.pm_lower.specs.Small.{IsSmall}
use Rattle.std.specs.Prelude.{IfOk}
use Rattle.pm_lower_load.specs.declared.load_error.LoadError.{LoadError}
use Rattle.base_values.proofs.Outcomes.{Keeps, keeps_bind, keeps_ok}

keeps_reading : {T : Type 0} (P : T → Type 0) (r : Reading T) → Keeps P r → Keeps P (of_reading r)
keeps_reading P (Ok y) keeps x is = keeps x (let same : y ≡ x = cc in ap Ok same)
keeps_reading P (Err e) keeps x is = absurd (cc)

keeps_plain : (P : ProjectJson → Type 0) (member : Option (List ℕ)) (project : ProjectJson) → P project → Keeps P (without_toolchain member project)
keeps_plain P None project h x is = keeps_ok P project h x is
keeps_plain P (Some member) project h x is = absurd (cc)

-- what is read of a document's crates is read as it stands
read_as : {T : Type 0} (r : refusals.Reading T) (x : T) → of_json_reading r ≡ Ok x → r ≡ Ok x
read_as (Ok y) x is = let same : y ≡ x = cc in ap Ok same
read_as (Err e) x is = absurd (cc)

-- the roots of a toolchain are one
one_root : (sysroot : Toolchain) (w : RustLibSrcWorkspace) → length (library_roots w ++ library_source_root sysroot.src ∷ []) ≡ 1
one_root sysroot Empty = refl

-- a kind of project has few roots of its own, and no crates of the compiler
abbrev pub FewRoots : Limits → ProjectWorkspaceKind → Type 0
FewRoots limits kind = (extra : List (List ℕ)) → length (kind_roots kind extra) ≤ limits.packages + limits.crates + 1

module _ (sysroot : Toolchain) (config : CargoConfig) (limits : Limits) (means : Means) where
  -- the project of a kind that is small
  small_of : (toolchain : Toolchain) (answers : ToolAnswers) (kind : ProjectWorkspaceKind) → KindHasNoRustc kind → FewRoots limits kind → IsSmall limits (project_of_workspace toolchain config answers kind)
  small_of toolchain answers kind no_rustc few = record {
    no_rustc = no_rustc;
    few =
        let count = length-append (kind_roots kind config.extra_includes) (sysroot_roots toolchain) in
        let one = one_root toolchain toolchain.workspace in
        let own = few config.extra_includes in
        omega (arith, count, one, own);
  }

  few_cargo : (error : Option Error) (cargo : Workspace) → length cargo.packages ≤ limits.packages → FewRoots limits (kind_of_project error cargo)
  few_cargo error cargo few extra = let many = as_many cargo (out_dir_at no_scripts) extra in omega (arith, many, few)

  small_with : (manifest : List ℕ) (answers : ToolAnswers) (metadata : Metadata × Option Error) → Keeps (IsSmall limits) (project_with sysroot manifest config answers limits means metadata)
  unfolding project_with kind_with
  small_with manifest answers metadata =
      let env = environment answers.config_file config means in
      let reading = read_workspace metadata.0 manifest env false limits in
      let Small : ProjectWorkspaceKind → Type 0 = λ kind. IsSmall limits (project_of_workspace sysroot config answers kind) in
      let kinds : Keeps Small (of_reading reading >>= λ cargo. Ok (kind_of_project metadata.1 cargo)) =
      keeps_bind Small (of_reading reading) (λ cargo. Ok (kind_of_project metadata.1 cargo)) (λ cargo is.
      keeps_ok Small (kind_of_project metadata.1 cargo) (small_of sysroot answers (kind_of_project metadata.1 cargo) refl (few_cargo metadata.1 cargo
      (keeps_reading (λ (w : Workspace). length w.packages ≤ limits.packages) reading (document_few metadata.0 manifest env false limits) cargo is)))) in
      keeps_bind (IsSmall limits) (of_reading reading >>= λ cargo. Ok (kind_of_project metadata.1 cargo)) _ (λ kind is. keeps_ok (IsSmall limits) _ (kinds kind is))

  small_located : (manifest : List ℕ) → Keeps (IsSmall limits) (located_project sysroot manifest config limits means)
  unfolding located_project
  small_located manifest =
      let answers = tool_answers sysroot manifest FirstTarget config means in
      keeps_bind (IsSmall limits) (of_fetch (metadata_answer sysroot manifest config answers means)) _ (λ metadata is. small_with manifest answers metadata)

  small_cargo : (manifest : List ℕ) → Keeps (IsSmall limits) (cargo_project sysroot manifest config limits means)
  unfolding cargo_project located_project project_with
  small_cargo manifest = keeps_bind (IsSmall limits) (located_manifest sysroot manifest means) _ (λ located is. small_located located)

  -- ---- a JSON project

  few_json : (project : ProjectJson) → length (queries.crates_in project) ≤ limits.crates → FewRoots limits (Json project)
  few_json project few extra = let distinct = few_distinct project extra in omega (arith, distinct, few)

  few_crates : (path : List ℕ) → Keeps (λ (project : ProjectJson). length (queries.crates_in project) ≤ limits.crates) (json_content path limits means.files)
  unfolding json_content project_of_document
  few_crates path =
      let Few : ProjectJson → Type 0 = λ project. length (queries.crates_in project) ≤ limits.crates in
      keeps_bind Few (document_at means.files path) _ (λ stated _.
      keeps_bind Few (of_json_reading (json.project_of limits.crates stated (Some path) (directory_of path))) _ (λ project is.
      keeps_plain Few (toolchain_member stated) project
      (few_in_project limits.crates stated (Some path) (directory_of path) project (read_as (json.project_of limits.crates stated (Some path) (directory_of path)) project is))))

  small_json : (path : List ℕ) → Keeps (IsSmall limits) (json_project path config limits means)
  unfolding json_project inline_project
  small_json path =
      keeps_bind (IsSmall limits) (json_content path limits means.files) _ (λ project is.
      let sysroot = stated_sysroot project in
      let answers = compiler_answers sysroot (queries.project_base project) config.target means in
      keeps_ok (IsSmall limits) _ (small_of sysroot answers (Json project) tt (few_json project (few_crates path project is))))

  -- ---- a detached file

  few_script : (file : List ℕ) (script : Option ScriptPart) → ((w : Workspace) → script_workspace script ≡ Some w → length w.packages ≤ limits.packages) → FewRoots limits (DetachedFile file script)
  few_script file None few extra = omega arith
  few_script file (Some script) few extra = let many = as_many script.0 (out_dir_at script.1) extra in omega (arith, many, few script.0 refl)

  few_read : (file : List ℕ) (printed : Option (List ℕ)) (metadata : Option (Metadata × Option Error))
      → Keeps (λ (script : Option ScriptPart). FewRoots limits (DetachedFile file script)) (of_reading (script_with file printed limits means metadata))
  few_read file printed None =
      keeps_ok (λ (script : Option ScriptPart). FewRoots limits (DetachedFile file script)) None (few_script file None (λ w is. absurd (cc)))
  few_read file printed (Some metadata) =
      let Few : Option ScriptPart → Type 0 = λ script. FewRoots limits (DetachedFile file script) in
      let env = config_env printed means in
      let reading = read_workspace metadata.0 file env false limits in
      subst (Keeps Few) (sym (load_made (λ (w : Workspace). Some (script_of metadata.1 w)) reading) ∙ ap of_reading (sym (bind_made (λ (w : Workspace). Some (script_of metadata.1 w)) reading)))
      (keeps_bind Few (of_reading reading) _ (λ cargo is.
      let few : length cargo.packages ≤ limits.packages = keeps_reading (λ (w : Workspace). length w.packages ≤ limits.packages) reading (document_few metadata.0 file env false limits) cargo is in
      keeps_ok Few (Some (script_of metadata.1 cargo)) (few_script file (Some (script_of metadata.1 cargo))
      (λ w same. let it : cargo ≡ w = cc in subst (λ (v : Workspace). length v.packages ≤ limits.packages) it few))))

  small_detached : (file : List ℕ) → Keeps (IsSmall limits) (of_reading (detached_project sysroot file config limits means))
  unfolding detached_project detached_with
  small_detached file =
      let answers = tool_answers sysroot file NoTarget config means in
      let metadata = metadata_or_none (metadata_answer sysroot file config answers means) in
      let read = script_with file answers.config_file limits means metadata in
      subst (Keeps (IsSmall limits)) (sym (load_made (λ (s : Option ScriptPart). project_of_workspace sysroot config answers (DetachedFile file s)) read) ∙ ap of_reading (sym (bind_made (λ (s : Option ScriptPart). project_of_workspace sysroot config answers (DetachedFile file s)) read)))
      (keeps_bind (IsSmall limits) (of_reading read) _ (λ script is.
      keeps_ok (IsSmall limits) _ (small_of sysroot answers (DetachedFile file script) tt (few_read file answers.config_file metadata script is))))

-- a project that is read is small
pub is_small : (manifest : ProjectManifest) (config : CargoConfig) (limits : Limits) (means : Means) (p : ProjectWorkspace)
    → read_project manifest config limits means ≡ Ok p → IsSmall limits p
is_small (given.ProjectJson path) config limits means = small_json empty_sysroot config limits means path
is_small (given.CargoToml manifest) config limits means = small_cargo empty_sysroot config limits means manifest
is_small (given.CargoScript file) config limits means = small_detached empty_sysroot config limits means file

-- a project that a load gives is small
pub small_given : (manifest : ProjectManifest) (config : CargoConfig) (limits : Limits) (means : Means) (result : Result ProjectWorkspace LoadError)
    → Gives result (read_project manifest config limits means) → IfOk result (IsSmall limits)
small_given manifest config limits means (Ok p) h = is_small manifest config limits means p h
small_given manifest config limits means (Err e) h = tt
