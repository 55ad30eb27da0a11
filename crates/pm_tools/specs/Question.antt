-- The build question: the command that builds what a workspace needs at compile time. Its words are this
-- project's own profile, its variables those of rust-analyzer.
use Rattle.std.specs.Prelude.{ℕ, Bool, ◌&&◌, not, if◌then◌else◌, List, [], ◌∷◌, codes, Option, Some, None, unwrap_or}
use Rattle.base_values.specs.Version.{Parts}
use Rattle.base_text_outside.specs.declared.command.CommandLine.{CommandLine}
use Rattle.pm_cargo.specs.Workspace.{Workspace}
use Rattle.pm_cargo_config.specs.declared.config.CargoConfig.{CargoConfig}
use Rattle.base_text.specs.declared.tool.Tool.TheVariants.{Cargo}
use Rattle.pm_cargo_config.specs.Variables.{with_channel, with_last_variable}
use Rattle.pm_tools_ask.specs.Ask.{Means}
use Rattle.pm_tools_ask.specs.Questions.{question}
use Rattle.pm_tools_ask.specs.Toolchain.{Toolchain}
use Rattle.pm_tools.specs.Words.{build_words, is_unstable, takes_compile_time_deps}

-- whether the compiler is run through the program that asks: where that is configured, and the build cannot
-- be limited
abbrev pub wraps_compiler : CargoConfig → Option Parts → Bool
wraps_compiler config version = config.wrap_rustc_in_build_scripts && not (takes_compile_time_deps version)

-- the command, which runs the compiler through the program that asks, where that is wanted
abbrev pub with_wrapper : Bool → List ℕ → CommandLine → CommandLine
with_wrapper wraps myself line =
    if wraps then with_last_variable (codes "RA_RUSTC_WRAPPER") (codes "1") (with_last_variable (codes "RUSTC_WRAPPER") myself line)
    else line

-- the build by `cargo check`, in the workspace's root
abbrev pub cargo_question : CargoConfig → Workspace → Toolchain → Option Parts → Means → CommandLine
cargo_question config w sysroot version means =
    with_channel (is_unstable w.manifest_path version)
    (with_wrapper (wraps_compiler config version) means.tools.myself
    (question sysroot.root Cargo w.workspace_root (build_words config w version) means))

-- the configured command in a directory, where its words begin with a program
abbrev pub configured_question : Option (List (List ℕ)) → List ℕ → Means → Option CommandLine
configured_question None dir means = None
configured_question (Some []) dir means = None
configured_question (Some (program ∷ words)) dir means =
    Some (record { program = program; words = words; dir = dir; env = means.extra_env })

-- the build question: the configured command, else that of `cargo`
unfoldable pub build_question : CargoConfig → Workspace → Toolchain → Option Parts → Means → CommandLine
build_question config w sysroot version means =
    unwrap_or (configured_question config.run_build_script_command w.workspace_root means)
    (cargo_question config w sysroot version means)
