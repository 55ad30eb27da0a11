-- The project that a load reads of a manifest, by the kind of the manifest. The rules are those of
-- rust-analyzer's `ProjectWorkspace::load`.
use Rattle.std.specs.Prelude.{◌≡◌, None}
use Rattle.base_text_outside.specs.declared.limits.Limits.{Limits}
use Rattle.pm_cargo_config.specs.declared.config.CargoConfig.{CargoConfig}
use Rattle.pm_lower.specs.DetachedProject.{detached_project}
use Rattle.pm_lower.specs.JsonProject.{json_project}
use Rattle.pm_lower_load.specs.Loading.{Loading, of_reading}
use Rattle.pm_lower.specs.Project.{cargo_project}
use Rattle.pm_lower.specs.declared.project_workspace.ProjectWorkspace.{ProjectWorkspace}
use Rattle.pm_tools_ask.specs.Ask.{Means}
use Rattle.pm_tools_ask.specs.Sysroot.{empty_sysroot}
use Rattle.pm_tools_ask.specs.declared.project_manifest.ProjectManifest.{ProjectManifest}
use Rattle.pm_tools_ask.specs.declared.project_manifest.ProjectManifest.TheVariants.{ProjectJson, CargoToml, CargoScript}

-- the project of a manifest, with no toolchain configured, or the first refusal
abbrev pub read_project : ProjectManifest → CargoConfig → Limits → Means → Loading ProjectWorkspace
read_project (ProjectJson path) config limits means = json_project path config limits means
read_project (CargoToml manifest) config limits means =
    cargo_project empty_sysroot manifest config limits means
read_project (CargoScript file) config limits means =
    of_reading (detached_project empty_sysroot file config limits means)

-- neither a toolchain nor sources of the compiler are configured, and the extra variables are those that
-- questions are asked with
pub record IsPlain (config : CargoConfig) (means : Means) : Type 0 where
  pub sysroot : config.sysroot ≡ None
  pub rustc_source : config.rustc_source ≡ None
  pub extra_env : config.extra_env ≡ means.extra_env
