-- What the tools of a toolchain say of a project before its metadata is fetched. Each answer is the
-- definition of its own call in a lower crate. The order is that of rust-analyzer's `ProjectWorkspace::load`.
use Rattle.std.specs.Prelude.{ℕ, List, [], ◌++◌, codes, slice_get, Option, None, Result, Ok, Err}
use Rattle.base_values.specs.Version.{Parts}
use Rattle.crate_graph_values.specs.declared.target.TargetData.{TargetData}
use Rattle.crate_graph_values.specs.declared.target.TargetLoadError.{TargetLoadError}
use Rattle.pm_cargo_config.specs.declared.config.CargoConfig.{CargoConfig}
use Rattle.pm_lower_load.specs.declared.tool_answers.PlatformAsked.{PlatformAsked}
use Rattle.pm_lower_load.specs.declared.tool_answers.PlatformAsked.TheVariants.{FirstTarget, NoTarget}
use Rattle.pm_lower_load.specs.declared.tool_answers.ToolAnswers.{ToolAnswers}
use Rattle.pm_tools_ask.specs.Ask.{Means}
use Rattle.pm_tools_ask.specs.Toolchain.{Toolchain}
use Rattle.pm_tools_ask.specs.ConfigQuestion.{printed_config}
use Rattle.pm_tools_info.specs.Config.{Query, compiler_query, manifest_query}
use Rattle.pm_tools_info.specs.Queries.{cfg_answer, data_answer, target_answer, version_answer}
use Rattle.pm_tools_info.specs.declared.query_error.QueryError.{QueryError}
use Rattle.pm_tools_info.specs.declared.query_error.QueryError.TheVariants.{Failed}

-- the platforms that are built for: none where nothing says which
abbrev pub targets_or_none : Result (List (List ℕ)) QueryError → List (List ℕ)
targets_or_none (Ok targets) = targets
targets_or_none (Err error) = []

-- the version of the toolchain, if it is known
abbrev pub version_or_none : Result (Option Parts) QueryError → Option Parts
version_or_none (Ok version) = version
version_or_none (Err error) = None

-- why nothing is known of the machine
abbrev pub target_error : QueryError → List ℕ
target_error (Failed line) = codes "cannot run " ++ line
target_error other = codes "bad target spec"

-- the machine, or why nothing is known of it
abbrev pub target_result : Result TargetData QueryError → Result TargetData TargetLoadError
target_result (Ok machine) = Ok machine
target_result (Err error) = Err (record { 0 = target_error error })

-- the platform that is named to the tools, if one is
abbrev pub platform_asked : PlatformAsked → List (List ℕ) → Option (List ℕ)
platform_asked FirstTarget targets = slice_get targets 0
platform_asked NoTarget targets = None

-- what the tools say of a platform, with the other answers so far
abbrev pub with_platform : Query → List (List ℕ) → Option Parts → Option (List ℕ) → Means → ToolAnswers
with_platform query targets version platform means = record {
  config_file = query.printed;
  targets = targets;
  toolchain = version;
  rustc_cfg = cfg_answer query platform means;
  target = target_result (data_answer query platform version means);
}

-- the same, where the platform is one of those that are built for, or none is named
abbrev pub with_targets : PlatformAsked → Query → List (List ℕ) → Option Parts → Means → ToolAnswers
with_targets platform query targets version means =
    with_platform query targets version (platform_asked platform targets) means

-- all that is asked of the tools, with the platform that is configured, if one is
abbrev pub answers_to : PlatformAsked → Query → Option (List ℕ) → Means → ToolAnswers
answers_to platform query target means =
    with_targets platform query (targets_or_none (target_answer query target means))
    (version_or_none (version_answer query means)) means

-- what the tools say of the project of a manifest
unfoldable pub tool_answers : Toolchain → List ℕ → PlatformAsked → CargoConfig → Means → ToolAnswers
tool_answers sysroot manifest platform config means =
    let printed = printed_config manifest sysroot config.config_path means in
    answers_to platform (manifest_query sysroot manifest printed) config.target means

-- what the compiler of a toolchain says in a directory, where no manifest of cargo is asked for: of the given
-- platform or of its own
unfoldable pub compiler_answers : Toolchain → List ℕ → Option (List ℕ) → Means → ToolAnswers
compiler_answers sysroot dir target means = answers_to FirstTarget (compiler_query sysroot dir) target means
