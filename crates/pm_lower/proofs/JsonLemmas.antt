-- A JSON project is loaded step by step: each step is that of the definition, where the code's values are those of the definition.
use Rattle.std.proofs.Common.{◌≡◌, ℕ, List, Option, Ok, sym, ap, subst, ◌∙◌}
use Rattle.base_text_outside.specs.declared.limits.Limits.{Limits}
use Rattle.pm_cargo_config.specs.declared.config.CargoConfig.{CargoConfig}
use Rattle.pm_json.specs.Queries.{project_base}
use Rattle.pm_json.specs.declared.project_json.ProjectJson.{ProjectJson}
use Rattle.pm_lower_load.specs.ToolAnswers.{compiler_answers}
use Rattle.pm_lower_load.specs.JsonDocument.{json_content, stated_sysroot}
use Rattle.base_values.specs.Outcome.{◌>>=◌}
use Rattle.pm_lower_load.specs.Loading.{Loading, Refuses, of_reading, of_workspace_error}
use Rattle.pm_lower_load.specs.declared.load_error.LoadError.{LoadError}
use Rattle.pm_lower_load.specs.declared.tool_answers.ToolAnswers.{ToolAnswers}
use Rattle.pm_lower_load.proofs.LoadingLemmas.{refuses_first, refuses_reading}
use Rattle.pm_lower.specs.JsonProject.{inline_project, json_project}
use Rattle.pm_lower.specs.Project.{project_of_workspace}
use Rattle.pm_lower.specs.declared.cargo_project.Settings.{Settings}
use Rattle.pm_lower.specs.declared.project_workspace.ProjectWorkspace.{ProjectWorkspace}
use Rattle.pm_lower.specs.declared.project_workspace.ProjectWorkspaceKind.TheVariants.{Json}
use Rattle.pm_lower.proofs.ProjectLemmas.{made-is, made_of, settings_kept}
use Rattle.pm_cargo_reading.specs.Reading as reading
use Rattle.pm_cargo_reading.specs.declared.workspace_error.WorkspaceError.{WorkspaceError}
use Rattle.pm_tools_ask.specs.Ask.{Means}
use Rattle.pm_tools_ask.specs.Toolchain.{Toolchain}

-- what a compiler says in the directory of a project
pub answers-are : (sysroot stated : Toolchain) (dir root : List ℕ) (target : Option (List ℕ)) (means : Means) (answers : ToolAnswers) → sysroot ≡ stated → dir ≡ root
    → answers ≡ compiler_answers sysroot dir target means → answers ≡ compiler_answers stated root target means
answers-are sysroot stated dir root target means answers is_sysroot is_dir is = is ∙ (λ i. compiler_answers (is_sysroot i) (is_dir i) target means)

-- the parts of a project that was read
pub inline-is : (project : ProjectJson) (config : CargoConfig) (means : Means) (sysroot : Toolchain) (settings : Settings) (answers : ToolAnswers) (made : ProjectWorkspace)
    → sysroot ≡ stated_sysroot project → answers ≡ compiler_answers (stated_sysroot project) (project_base project) config.target means → settings ≡ settings_kept config
    → made ≡ made_of sysroot settings answers (Json project) → inline_project project config means ≡ Ok made
unfolding inline_project
inline-is project config means sysroot settings answers made is_sysroot is_answers is_settings is_made =
    ap Ok (sym (made-is sysroot config settings answers (Json project) made is_made is_settings ∙ (λ i. project_of_workspace (is_sysroot i) config (is_answers i) (Json project))))

module _ (path : List ℕ) (config : CargoConfig) (limits : Limits) (means : Means) where
  pub json-refused : (e : LoadError) → Refuses e (json_content path limits means.files) → Refuses e (json_project path config limits means)
  unfolding json_project
  json-refused e h = refuses_first e (json_content path limits means.files) (λ (project : ProjectJson). of_reading (inline_project project config means)) h

  -- the project is refused, which comes of memory alone
  pub made-refused : (project : ProjectJson) (e : WorkspaceError) → json_content path limits means.files ≡ Ok project
      → reading.Refuses e (inline_project project config means) → Refuses (of_workspace_error e) (json_project path config limits means)
  unfolding json_project
  made-refused project e is h =
      subst (λ (l : Loading ProjectJson). Refuses (of_workspace_error e) (l >>= λ p. of_reading (inline_project p config means))) (sym is)
      (refuses_reading e (inline_project project config means) h)

  pub json-read : (project : ProjectJson) (made : ProjectWorkspace) → json_content path limits means.files ≡ Ok project
      → inline_project project config means ≡ Ok made → json_project path config limits means ≡ Ok made
  unfolding json_project
  json-read project made is is_made = ap (λ (l : Loading ProjectJson). l >>= λ p. of_reading (inline_project p config means)) is ∙ ap of_reading is_made
