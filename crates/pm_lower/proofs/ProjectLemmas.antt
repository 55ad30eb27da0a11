-- A project is loaded step by step: each step is that of the definition, where the code's values are those of the definition.
use Rattle.std.proofs.Common.{◌≡◌, ℕ, false, List, Option, Result, Ok, Err, refl, sym, ap, subst, ◌∙◌}
use Rattle.base_text_outside.specs.declared.limits.Limits.{Limits}
use Rattle.cargo_meta.specs.declared.metadata.Metadata.{Metadata}
use Rattle.cargo_meta_values.specs.declared.errors.Error.{Error}
use Rattle.pm_cargo.specs.ReadWorkspace.{read_workspace}
use Rattle.pm_cargo.specs.Shuffle.{IsShuffle}
use Rattle.pm_cargo.specs.Workspace.{Workspace}
use Rattle.pm_cargo.proofs.ShuffleLemmas.{shuffle-read}
use Rattle.pm_cargo_config.specs.declared.config.CargoConfig.{CargoConfig}
use Rattle.pm_lower_load.specs.Located.{located_manifest}
use Rattle.base_values.specs.Outcome.{◌>>=◌}
use Rattle.pm_lower_load.specs.Loading.{Gives, Loading, Refuses, of_fetch, of_reading, of_workspace_error}
use Rattle.pm_lower_load.specs.Metadata.{environment, metadata_answer}
use Rattle.pm_lower_load.specs.ToolAnswers.{tool_answers}
use Rattle.pm_lower_load.specs.declared.load_error.LoadError.{LoadError}
use Rattle.pm_lower_load.specs.declared.tool_answers.PlatformAsked.TheVariants.{FirstTarget}
use Rattle.pm_lower_load.specs.declared.tool_answers.ToolAnswers.{ToolAnswers}
use Rattle.pm_lower_load.proofs.LoadingLemmas.{gives_next, refuses_first, refuses_reading}
use Rattle.pm_lower.specs.Order.{IsLoadedAlike}
use Rattle.pm_lower.specs.Project.{cargo_project, kind_of_project, kind_with, located_project, project_of_workspace, project_with}
use Rattle.pm_lower.specs.declared.cargo_project.Settings.{Settings}
use Rattle.pm_lower.specs.declared.project_workspace.ProjectWorkspace.{ProjectWorkspace}
use Rattle.pm_lower.specs.declared.project_workspace.ProjectWorkspaceKind.{ProjectWorkspaceKind}
use Rattle.pm_cargo_reading.specs.Reading as reading
use Rattle.pm_cargo_reading.specs.Reading.{Reading}
use Rattle.pm_cargo_reading.specs.declared.workspace_error.WorkspaceError.{WorkspaceError}
use Rattle.pm_tools_ask.specs.Ask.{Means}
use Rattle.pm_tools_ask.specs.Toolchain.{Toolchain}

-- ---- what is kept of the configuration

-- the project of a kind, made of parts
abbrev pub made_of : Toolchain → Settings → ToolAnswers → ProjectWorkspaceKind → ProjectWorkspace
made_of sysroot settings answers kind = record {
  kind = kind;
  sysroot = sysroot;
  rustc_cfg = answers.rustc_cfg;
  toolchain = answers.toolchain;
  target = answers.target;
  cfg_overrides = settings.cfg_overrides;
  extra_includes = settings.extra_includes;
  set_test = settings.set_test;
}

-- what a project keeps of its configuration
abbrev pub settings_kept : CargoConfig → Settings
settings_kept config = record {
  cfg_overrides = config.cfg_overrides;
  extra_includes = config.extra_includes;
  set_test = config.set_test;
}

-- with these, the project is that of the definition
pub made-is : (sysroot : Toolchain) (config : CargoConfig) (settings : Settings) (answers : ToolAnswers) (kind : ProjectWorkspaceKind) (made : ProjectWorkspace)
    → made ≡ made_of sysroot settings answers kind → settings ≡ settings_kept config → made ≡ project_of_workspace sysroot config answers kind
made-is sysroot config settings answers kind made is_made is_settings = is_made ∙ ap (λ (s : Settings). made_of sysroot s answers kind) is_settings

-- ---- a load

module _ (manifest : List ℕ) (config : CargoConfig) (limits : Limits) (means : Means) where
  module _ (answers : ToolAnswers) (metadata : Metadata × Option Error) (file : Option (List ℕ)) (env : List (List ℕ × List ℕ)) (is_file : file ≡ answers.config_file)
      (is_env : env ≡ environment file config means) where
    env_is : env ≡ environment answers.config_file config means
    env_is = is_env ∙ ap (λ (f : Option (List ℕ)). environment f config means) is_file

    -- metadata that is read as no workspace
    pub kind-refused : (e : WorkspaceError) → reading.Refuses e (read_workspace metadata.0 manifest env false limits)
        → Refuses (of_workspace_error e) (kind_with manifest config answers limits means metadata)
    unfolding kind_with
    kind-refused e h =
        refuses_first (of_workspace_error e) (of_reading (read_workspace metadata.0 manifest (environment answers.config_file config means) false limits))
        (λ (cargo : Workspace). Ok (kind_of_project metadata.1 cargo))
        (refuses_reading e _ (subst (λ (v : List (List ℕ × List ℕ)). reading.Refuses e (read_workspace metadata.0 manifest v false limits)) env_is h))

    -- metadata that is read as a workspace
    pub kind-read : (cargo : Workspace) (kind : ProjectWorkspaceKind) → read_workspace metadata.0 manifest env false limits ≡ Ok cargo → kind ≡ kind_of_project metadata.1 cargo
        → kind_with manifest config answers limits means metadata ≡ Ok kind
    unfolding kind_with
    kind-read cargo kind is made =
        ap (λ (r : Loading Workspace). r >>= λ c. Ok (kind_of_project metadata.1 c))
        (ap of_reading (ap (λ (v : List (List ℕ × List ℕ)). read_workspace metadata.0 manifest v false limits) (sym env_is) ∙ is))
        ∙ ap Ok (sym made)

module _ (sysroot : Toolchain) (manifest : List ℕ) (config : CargoConfig) (limits : Limits) (means : Means) where
  module _ (answers : ToolAnswers) (metadata : Metadata × Option Error) where
    -- metadata that gives no kind of project
    pub project-refused : (e : LoadError) → Refuses e (kind_with manifest config answers limits means metadata) → Refuses e (project_with sysroot manifest config answers limits means metadata)
    unfolding project_with
    project-refused e h = refuses_first e (kind_with manifest config answers limits means metadata) (λ (kind : ProjectWorkspaceKind). Ok (project_of_workspace sysroot config answers kind)) h

    -- metadata that gives one
    pub project-read : (kind : ProjectWorkspaceKind) (project : ProjectWorkspace) → kind_with manifest config answers limits means metadata ≡ Ok kind
        → project ≡ project_of_workspace sysroot config answers kind → project_with sysroot manifest config answers limits means metadata ≡ Ok project
    unfolding project_with
    project-read kind project is made = ap (λ (r : Loading ProjectWorkspaceKind). r >>= λ k. Ok (project_of_workspace sysroot config answers k)) is ∙ ap Ok (sym made)

  module _ (answers : ToolAnswers) (is_answers : answers ≡ tool_answers sysroot manifest FirstTarget config means) where
    -- no metadata is fetched
    pub metadata-refused : (e : LoadError) → Refuses e (of_fetch (metadata_answer sysroot manifest config answers means)) → Refuses e (located_project sysroot manifest config limits means)
    unfolding located_project
    metadata-refused e h =
        let all = tool_answers sysroot manifest FirstTarget config means in
        refuses_first e (of_fetch (metadata_answer sysroot manifest config all means)) (λ (m : Metadata × Option Error). project_with sysroot manifest config all limits means m)
        (subst (λ (a : ToolAnswers). Refuses e (of_fetch (metadata_answer sysroot manifest config a means))) is_answers h)

    -- metadata is fetched, and the rest is loaded with it
    pub metadata-gives : (result : Result ProjectWorkspace LoadError) (metadata : Metadata × Option Error) → of_fetch (metadata_answer sysroot manifest config answers means) ≡ Ok metadata
        → Gives result (project_with sysroot manifest config answers limits means metadata) → Gives result (located_project sysroot manifest config limits means)
    unfolding located_project
    metadata-gives result metadata is h =
        let all = tool_answers sysroot manifest FirstTarget config means in
        gives_next result (of_fetch (metadata_answer sysroot manifest config all means)) metadata (λ (m : Metadata × Option Error). project_with sysroot manifest config all limits means m)
        (subst (λ (a : ToolAnswers). of_fetch (metadata_answer sysroot manifest config a means) ≡ Ok metadata) is_answers is)
        (subst (λ (a : ToolAnswers). Gives result (project_with sysroot manifest config a limits means metadata)) is_answers h)

  -- no root is located
  pub root-refused : (e : LoadError) → Refuses e (located_manifest sysroot manifest means) → Refuses e (cargo_project sysroot manifest config limits means)
  unfolding cargo_project located_project project_with
  root-refused e h = refuses_first e (located_manifest sysroot manifest means) (λ (located : List ℕ). located_project sysroot located config limits means) h

  -- the root is located, and the rest is loaded for it
  pub root-gives : (result : Result ProjectWorkspace LoadError) (located : List ℕ) → located_manifest sysroot manifest means ≡ Ok located
      → Gives result (located_project sysroot located config limits means) → Gives result (cargo_project sysroot manifest config limits means)
  unfolding cargo_project located_project project_with
  root-gives result located is h =
      gives_next result (located_manifest sysroot manifest means) located (λ (l : List ℕ). located_project sysroot l config limits means) is h

-- ---- the order of metadata

-- what is loaded of a reading in two steps is made of what was read
pub read_before : {A B C : Type 0} (part : Reading A) (f : A → B) (g : B → C) (y : C) → ((of_reading part >>= λ x. Ok (f x)) >>= λ k. Ok (g k)) ≡ Ok y → (x : A) × (part ≡ Ok x) × (g (f x) ≡ y)
read_before (Ok x) f g y is = (x, refl, cc)
read_before (Err e) f g y is = cc

-- the law
pub project-order : (a b : Metadata) → IsShuffle a b → IsLoadedAlike a b
unfolding project_with kind_with
project-order a b shuffle sysroot manifest config answers limits means error p q is are =
    let env : List (List ℕ × List ℕ) = environment answers.config_file config means in
    let made : ProjectWorkspaceKind → ProjectWorkspace = project_of_workspace sysroot config answers in
    let x = read_before (read_workspace a manifest env false limits) (kind_of_project error) made p is in
    let y = read_before (read_workspace b manifest env false limits) (kind_of_project error) made q are in
    sym x.2 ∙ ap (λ (w : Workspace). made (kind_of_project error w)) (shuffle-read a b shuffle manifest env false limits x.0 y.0 x.1 y.1) ∙ y.2
