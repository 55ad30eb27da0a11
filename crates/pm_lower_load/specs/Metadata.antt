-- The metadata of a workspace as a load fetches it, and the environment of the workspace. The rules are those
-- of rust-analyzer's `ProjectWorkspace::load`.
use Rattle.std.specs.Prelude.{ℕ, Bool, false, List, codes, fold, Option}
use Rattle.std.specs.Borrow.{Bor}
use Rattle.base_text_paths.specs.AbsPath.{abs_text}
use Rattle.base_text_outside.specs.declared.command.Output.{Output}
use Rattle.base_text_outside.specs.declared.command.Question.{Question}
use Rattle.pm_cargo_config.specs.declared.config.CargoConfig.{CargoConfig}
use Rattle.pm_cargo_config.specs.declared.metadata_config.CargoMetadataConfig.{CargoMetadataConfig}
use Rattle.base_text.specs.declared.tool_root.ToolRoot.{ToolRoot}
use Rattle.pm_cargo_fetch.specs.Fetch.{FetchAnswer, fetch_answer, fetch_of}
use Rattle.pm_cargo_fetch.specs.Reports.{fetch_lines}
use Rattle.pm_lower_load.specs.declared.metadata.Fetching.{Fetching}
use Rattle.pm_lower_load.specs.declared.tool_answers.ToolAnswers.{ToolAnswers}
use Rattle.base_text_paths.specs.ManifestPath.{directory_of}
use Rattle.pm_tools_ask.specs.Ask.{Means}
use Rattle.pm_tools_ask.specs.Sysroot.{tool_root}
use Rattle.pm_tools_ask.specs.Toolchain.{Toolchain}
use Rattle.pm_tools_ask.specs.ConfigEnv.{Environment, config_env, with_variable}

-- a reference to a value; where the value stands has no effect
abbrev pub reference : {T : Type 0} → T → Bor T
reference x = record { ref_ptr = (0, 0); now = x }

-- how metadata is asked for
abbrev pub metadata_config : CargoConfig → ToolAnswers → CargoMetadataConfig
metadata_config config answers = record {
  features = config.features;
  targets = answers.targets;
  extra_args = config.extra_args;
  metadata_extra_args = config.metadata_extra_args;
  config_path = config.config_path;
  extra_env = config.extra_env;
  kind = reference (codes "workspace");
  toolchain_version = answers.toolchain;
}

-- the metadata of a manifest's workspace, asked for in a directory and as it is configured, by the tools of a
-- toolchain; where it is locked the lockfile stays as it is
abbrev pub fetched_in : List ℕ → List ℕ → CargoMetadataConfig → ToolRoot → Bool → Bool
    → List (Question × Output) → FetchAnswer
fetched_in manifest dir asked root no_deps locked answers =
    fetch_answer (fetch_of manifest dir asked root no_deps answers) locked answers

-- the lines while it is fetched so
abbrev pub lines_in : List ℕ → List ℕ → CargoMetadataConfig → ToolRoot → Bool → Bool
    → List (Question × Output) → List (List ℕ)
lines_in manifest dir asked root no_deps locked answers =
    fetch_lines (fetch_of manifest dir asked root no_deps answers) locked answers

-- the same by what code passes for it
abbrev pub fetched_as : Fetching → ToolRoot → List (Question × Output) → FetchAnswer
fetched_as f root answers =
    fetched_in f.manifest.now (abs_text f.dir) f.asked.now root f.no_deps f.locked answers

abbrev pub fetched_lines : Fetching → ToolRoot → List (Question × Output) → List (List ℕ)
fetched_lines f root answers =
    lines_in f.manifest.now (abs_text f.dir) f.asked.now root f.no_deps f.locked answers

-- the metadata of a project's workspace, asked for in the manifest's directory; the lockfile may change
unfoldable pub metadata_answer : Toolchain → List ℕ → CargoConfig → ToolAnswers → Means → FetchAnswer
metadata_answer sysroot manifest config answers means =
    fetched_in manifest (directory_of manifest) (metadata_config config answers)
    (tool_root sysroot.root means) config.no_deps false means.answers

-- the lines while it is fetched
unfoldable pub metadata_lines : Toolchain → List ℕ → CargoConfig → ToolAnswers → Means → List (List ℕ)
metadata_lines sysroot manifest config answers means =
    lines_in manifest (directory_of manifest) (metadata_config config answers) (tool_root sysroot.root means)
    config.no_deps false means.answers

-- the environment of the workspace: that of the printed configuration, and then what is configured
unfoldable pub environment : Option (List ℕ) → CargoConfig → Means → Environment
environment file config means =
    fold (λ env variable. with_variable variable.0 variable.1 env) (config_env file means) config.extra_env
