-- What one build of several workspaces gives each of them. Outputs go by the ids of packages: all packages of
-- an id, in any of the workspaces, get one output. The rule is that of rust-analyzer's
-- `WorkspaceBuildScripts::run_once`.
use Rattle.std.specs.Prelude.{ℕ, refl, List, fold, Option, Some, None, Ok, Err}
use Rattle.std.specs.Coded.{Coded, code_by, coded×, coded_list}
use Rattle.std.specs.FinMap.{empty, get, insert}
use Rattle.std.specs.Option.{option_and_then}
use Rattle.base_text_paths.specs.Arena.{with_numbers}
use Rattle.base_text_outside.specs.Runner.{answer_of}
use Rattle.base_text_outside.specs.declared.command.CommandLine.{CommandLine}
use Rattle.base_text_outside.specs.declared.command.Output.{Output}
use Rattle.base_text_outside.specs.declared.command.Question.{Question}
use Rattle.cargo_meta.specs.Answer.{line_text}
use Rattle.pm_cargo.specs.Workspace.{Workspace}
use Rattle.pm_cargo_packages.specs.contracts.package.PackageData as stored
use Rattle.pm_cargo_packages.specs.declared.package.PackageData.{PackageData}
use Rattle.pm_cargo_reading.specs.Nodes.{place_of_package}
use Rattle.pm_tools.specs.Outputs.{BuildScripts, Outputs, build_scripts_code, outputs_among}
use Rattle.pm_tools.specs.Packages.{packages_of_all}
use Rattle.base_values.specs.Outcome.{◌>>=◌}
use Rattle.pm_tools.specs.Reading.{Reading}
use Rattle.pm_tools.specs.declared.build_error.BuildError.TheVariants.{Io}
use Rattle.pm_cargo.specs.declared.output.BuildScriptOutput.{BuildScriptOutput}

-- the output of an id, among the outputs of some packages
abbrev pub output_of_id : List PackageData → Outputs → List ℕ → Option BuildScriptOutput
output_of_id all outputs id = option_and_then (get outputs) (place_of_package all id)

-- outputs with one more, if there is one
abbrev pub with_output : Outputs → ℕ → Option BuildScriptOutput → Outputs
with_output outputs number None = outputs
with_output outputs number (Some output) = insert outputs number output

-- the outputs of packages by their ids, each under the number of its package
abbrev pub outputs_by_id : List PackageData → Outputs → List PackageData → Outputs
outputs_by_id all outputs packages =
    fold (λ given p. with_output given p.0 (output_of_id all outputs p.1.id.repr)) empty
    (with_numbers packages)

-- one build of several workspaces: the packages of all of them, and what the build gives these
pub record SharedBuild : Type 0 where
  pub packages : List PackageData
  pub scripts : BuildScripts

-- both are stored side by side
abbrev pub shared_build_code : Coded SharedBuild
shared_build_code =
    code_by (List PackageData × BuildScripts) (coded× (coded_list stored.the_row.coded) build_scripts_code)
    (λ b. (b.packages, b.scripts))
    (λ p. record { packages = p.0; scripts = p.1 }) (λ _. refl)

-- what the build gives one of the workspaces: the outputs of its packages, and the error of the whole build
abbrev pub scripts_for : SharedBuild → Workspace → BuildScripts
scripts_for build w =
    record build.scripts { outputs = outputs_by_id build.packages build.scripts.outputs w.packages }

-- what one build gives the packages of some workspaces, by what its command wrote
abbrev pub shared_outputs : List Workspace → Output → Reading SharedBuild
shared_outputs workspaces output =
    let all = packages_of_all workspaces in
    outputs_among all output >>= λ scripts. Ok (record { packages = all; scripts = scripts })

-- what the answer to the question of such a build gives, if there is one
abbrev pub shared_build_by : List Workspace → CommandLine → Option Output → Reading SharedBuild
shared_build_by workspaces line None = Err (Io (line_text line))
shared_build_by workspaces line (Some output) = shared_outputs workspaces output

-- what one build gives the packages of some workspaces: the answer to this command counts for all of them
abbrev pub shared_build : CommandLine → List Workspace → List (Question × Output) → Reading SharedBuild
shared_build line workspaces answers = shared_build_by workspaces line (answer_of answers line)
