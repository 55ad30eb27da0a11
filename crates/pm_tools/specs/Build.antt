-- What a build of a workspace gives: the build question is asked, and what its command wrote is read. The
-- rule is that of rust-analyzer's `WorkspaceBuildScripts`.
use Rattle.std.specs.Prelude.{Option, Some, None, Err}
use Rattle.base_values.specs.Version.{Parts}
use Rattle.base_text_outside.specs.Runner.{answer_of}
use Rattle.base_text_outside.specs.declared.command.CommandLine.{CommandLine}
use Rattle.base_text_outside.specs.declared.command.Output.{Output}
use Rattle.cargo_meta.specs.Answer.{line_text}
use Rattle.pm_cargo.specs.Workspace.{Workspace}
use Rattle.pm_cargo_config.specs.declared.config.CargoConfig.{CargoConfig}
use Rattle.pm_tools_ask.specs.Ask.{Means}
use Rattle.pm_tools_ask.specs.Toolchain.{Toolchain}
use Rattle.pm_tools.specs.Question.{build_question}
use Rattle.pm_tools.specs.Outputs.{BuildScripts, outputs_of}
use Rattle.pm_tools.specs.Reading.{Reading}
use Rattle.pm_tools.specs.declared.build_error.BuildError.TheVariants.{Io}

-- what the answer to a build question gives, if there is one
abbrev pub build_of_answer : Workspace → CommandLine → Option Output → Reading BuildScripts
build_of_answer w line None = Err (Io (line_text line))
build_of_answer w line (Some output) = outputs_of w output

-- what a build of a workspace gives
abbrev pub build_of : CargoConfig → Workspace → Toolchain → Option Parts → Means → Reading BuildScripts
build_of config w sysroot version means =
    let line = build_question config w sysroot version means in
    build_of_answer w line (answer_of means.answers line)
