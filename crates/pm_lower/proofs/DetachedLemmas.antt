-- A detached file is loaded step by step: each step is that of the definition, where the code's values are those of the definition.
use Rattle.std.proofs.Common.{◌≡◌, ℕ, false, List, Option, Some, None, Result, Ok, Err, refl, sym, ap, subst, ◌∙◌}
use Rattle.base_text_outside.specs.declared.limits.Limits.{Limits}
use Rattle.cargo_meta.specs.declared.metadata.Metadata.{Metadata}
use Rattle.cargo_meta_values.specs.declared.errors.Error.{Error}
use Rattle.pm_cargo.specs.ReadWorkspace.{read_workspace}
use Rattle.pm_cargo.specs.Shuffle.{IsShuffle}
use Rattle.pm_cargo.specs.Workspace.{Workspace}
use Rattle.pm_cargo.proofs.ShuffleLemmas.{shuffle-read}
use Rattle.pm_cargo_config.specs.declared.config.CargoConfig.{CargoConfig}
use Rattle.pm_cargo_fetch.specs.Fetch.{FetchAnswer}
use Rattle.pm_lower_load.specs.Metadata.{metadata_answer}
use Rattle.pm_lower_load.specs.ToolAnswers.{tool_answers}
use Rattle.pm_lower_load.specs.declared.tool_answers.PlatformAsked.TheVariants.{NoTarget}
use Rattle.pm_lower_load.specs.declared.tool_answers.ToolAnswers.{ToolAnswers}
use Rattle.pm_lower.specs.DetachedProject.{detached_kind, detached_project, detached_with, metadata_or_none, script_of, script_with}
use Rattle.pm_lower.specs.Order.{IsDetachedAlike}
use Rattle.pm_lower.specs.Project.{project_of_workspace}
use Rattle.pm_lower.specs.ProjectWorkspace.{ScriptPart}
use Rattle.pm_lower.specs.declared.cargo_project.Settings.{Settings}
use Rattle.pm_lower.specs.declared.project_workspace.ProjectWorkspace.{ProjectWorkspace}
use Rattle.pm_lower.specs.declared.project_workspace.ProjectWorkspaceKind.{ProjectWorkspaceKind}
use Rattle.pm_lower.specs.declared.project_workspace.ProjectWorkspaceKind.TheVariants.{DetachedFile}
use Rattle.pm_lower.proofs.ProjectLemmas.{made-is, made_of, settings_kept}
use Rattle.base_values.specs.Outcome.{◌>>=◌}
use Rattle.pm_cargo_reading.specs.Reading.{Gives, Reading, Refuses}
use Rattle.pm_cargo_reading.specs.declared.workspace_error.WorkspaceError.{WorkspaceError}
use Rattle.pm_cargo_reading.proofs.ReadingLemmas.{refuses_bind}
use Rattle.pm_tools_ask.specs.Ask.{Means}
use Rattle.pm_tools_ask.specs.Toolchain.{Toolchain}
use Rattle.pm_tools_ask.specs.ConfigEnv.{config_env}

-- ---- metadata

-- metadata that was fetched
pub metadata-fetched : (answer : FetchAnswer) (m : Metadata × Option Error) → answer ≡ Ok m → Some m ≡ metadata_or_none answer
metadata-fetched (Ok x) m is = cc
metadata-fetched (Err e) m is = cc

-- metadata that was not, by this refusal
pub none_fetched : (answer : FetchAnswer) (e : Error) → answer ≡ Err e → None ≡ metadata_or_none answer
none_fetched (Ok x) e is = cc
none_fetched (Err error) e is = refl

-- ---- the project that cargo reads the file as

module _ (file : List ℕ) (printed : Option (List ℕ)) (limits : Limits) (means : Means) (found : Option (Metadata × Option Error)) (metadata : Metadata) (error : Option Error)
    (shown : Option (List ℕ)) (env : List (List ℕ × List ℕ)) (is_found : found ≡ Some (metadata, error)) (is_shown : shown ≡ printed) (is_env : env ≡ config_env shown means) where
  same_reading : read_workspace metadata file env false limits ≡ read_workspace metadata file (config_env printed means) false limits
  same_reading = ap (λ (v : List (List ℕ × List ℕ)). read_workspace metadata file v false limits) (is_env ∙ ap (λ (p : Option (List ℕ)). config_env p means) is_shown)

  -- the metadata is read as no workspace
  pub script-refused : (e : WorkspaceError) → Refuses e (read_workspace metadata file env false limits) → Refuses e (script_with file printed limits means found)
  script-refused e h =
      subst (λ (f : Option (Metadata × Option Error)). Refuses e (script_with file printed limits means f)) (sym is_found)
      (refuses_bind e (read_workspace metadata file (config_env printed means) false limits)
      (λ (cargo : Workspace). Ok (Some (script_of error cargo))) (subst (Refuses e) same_reading h))

  -- the metadata is read as one
  pub script-read : (cargo : Workspace) (script : ScriptPart) → read_workspace metadata file env false limits ≡ Ok cargo → script ≡ script_of error cargo
      → script_with file printed limits means found ≡ Ok (Some script)
  script-read cargo script is is_script =
      ap (λ (f : Option (Metadata × Option Error)). script_with file printed limits means f) is_found
      ∙ ap (λ (l : Reading Workspace). l >>= λ c. Ok (Some (script_of error c))) (sym same_reading ∙ is) ∙ ap (λ (s : ScriptPart). Ok (Some s)) (sym is_script)

-- ---- the kind of project

module _ (file : List ℕ) (printed : Option (List ℕ)) (limits : Limits) (means : Means) (found : Option (Metadata × Option Error)) (copy : List ℕ) (metadata : Option (Metadata × Option Error))
    (is_copy : copy ≡ file) (is_metadata : metadata ≡ found) where
  same_script : script_with copy printed limits means metadata ≡ script_with file printed limits means found
  same_script = λ i. script_with (is_copy i) printed limits means (is_metadata i)

  -- its workspace is refused
  pub kind-refused : (e : WorkspaceError) → Refuses e (script_with copy printed limits means metadata) → Refuses e (detached_kind file printed limits means found)
  kind-refused e h =
      refuses_bind e (script_with file printed limits means found) (λ (script : Option ScriptPart). Ok (DetachedFile file script)) (subst (Refuses e) same_script h)

  -- it has one, or needs none
  pub kind-read : (script : Option ScriptPart) (own : List ℕ) (kind : ProjectWorkspaceKind) → script_with copy printed limits means metadata ≡ Ok script → own ≡ file → kind ≡ DetachedFile own script
      → detached_kind file printed limits means found ≡ Ok kind
  kind-read script own kind is is_own is_kind =
      ap (λ (l : Reading (Option ScriptPart)). l >>= λ s. Ok (DetachedFile file s)) (sym same_script ∙ is)
      ∙ ap Ok (sym (is_kind ∙ ap (λ (f : List ℕ). DetachedFile f script) is_own))

-- ---- a load

-- a project is made of what is read as a kind
then_made : {A B C : Type 0} (part : Reading A) (f : A → B) (g : B → C) → ((part >>= λ x. Ok (f x)) >>= λ k. Ok (g k)) ≡ (part >>= λ x. Ok (g (f x)))
then_made (Ok x) f g = refl
then_made (Err e) f g = refl

module _ (sysroot : Toolchain) (file : List ℕ) (config : CargoConfig) (answers : ToolAnswers) (limits : Limits) (means : Means) (metadata : Option (Metadata × Option Error)) where
  by_kind : (detached_kind file answers.config_file limits means metadata >>= λ (kind : ProjectWorkspaceKind). Ok (project_of_workspace sysroot config answers kind))
      ≡ detached_with sysroot file config answers limits means metadata
  unfolding detached_with
  by_kind =
      then_made (script_with file answers.config_file limits means metadata) (λ (script : Option ScriptPart). DetachedFile file script)
      (λ (kind : ProjectWorkspaceKind). project_of_workspace sysroot config answers kind)

  pub detached-refused : (e : WorkspaceError) → Refuses e (detached_kind file answers.config_file limits means metadata) → Refuses e (detached_with sysroot file config answers limits means metadata)
  detached-refused e h =
      subst (Refuses e) by_kind
      (refuses_bind e (detached_kind file answers.config_file limits means metadata) (λ (kind : ProjectWorkspaceKind). Ok (project_of_workspace sysroot config answers kind)) h)

  pub detached-read : (kind : ProjectWorkspaceKind) (settings : Settings) (made : ProjectWorkspace) → detached_kind file answers.config_file limits means metadata ≡ Ok kind
      → settings ≡ settings_kept config → made ≡ made_of sysroot settings answers kind → detached_with sysroot file config answers limits means metadata ≡ Ok made
  detached-read kind settings made is is_settings is_made =
      sym by_kind
      ∙ ap (λ (l : Reading ProjectWorkspaceKind). l >>= λ k. Ok (project_of_workspace sysroot config answers k)) is
      ∙ ap Ok (sym (made-is sysroot config settings answers kind made is_made is_settings))

-- the answers are those of the definition
pub detached-gives : (sysroot : Toolchain) (file : List ℕ) (config : CargoConfig) (limits : Limits) (means : Means) (result : Result ProjectWorkspace WorkspaceError) (answers : ToolAnswers)
    → answers ≡ tool_answers sysroot file NoTarget config means
    → Gives result (detached_with sysroot file config answers limits means (metadata_or_none (metadata_answer sysroot file config answers means)))
    → Gives result (detached_project sysroot file config limits means)
unfolding detached_project detached_with
detached-gives sysroot file config limits means result answers is_answers h =
    subst (λ (a : ToolAnswers). Gives result (detached_with sysroot file config a limits means (metadata_or_none (metadata_answer sysroot file config a means)))) is_answers h

-- ---- the order of metadata

-- what is read in two steps is made of what was read
read_first : {A B C : Type 0} (part : Reading A) (f : A → B) (g : B → C) (y : C) → ((part >>= λ x. Ok (f x)) >>= λ k. Ok (g k)) ≡ Ok y → (x : A) × (part ≡ Ok x) × (g (f x) ≡ y)
read_first (Ok x) f g y is = (x, refl, cc)
read_first (Err e) f g y is = cc

-- the law
pub detached-order : (a b : Metadata) → IsShuffle a b → IsDetachedAlike a b
unfolding detached_with
detached-order a b shuffle sysroot file config answers limits means error p q is are =
    let env : List (List ℕ × List ℕ) = config_env answers.config_file means in
    let some : Workspace → Option ScriptPart = λ w. Some (script_of error w) in
    let made : Option ScriptPart → ProjectWorkspace = λ s. project_of_workspace sysroot config answers (DetachedFile file s) in
    let x = read_first (read_workspace a file env false limits) some made p is in
    let y = read_first (read_workspace b file env false limits) some made q are in
    sym x.2 ∙ ap (λ (w : Workspace). made (some w)) (shuffle-read a b shuffle file env false limits x.0 y.0 x.1 y.1) ∙ y.2
