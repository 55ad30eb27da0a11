-- What a build gives the packages of a workspace, by the messages that it writes, and why it failed. The
-- rules are those of rust-analyzer's `WorkspaceBuildScripts`.
use Rattle.std.specs.Prelude.{ℕ, refl, Bool, if◌then◌else◌, List, [], ◌++◌, bytes_eq, codes, fold, length, Option, Some, None, Result, Ok, Err}
use Rattle.std.specs.FinMap.{FinMap, code, empty, get, insert}
use Rattle.std.specs.List.{range_with_len}
use Rattle.std.specs.Coded.{Coded, code_by, coded×, coded_list, coded_option, coded_ℕ}
use Rattle.std.specs.Ordering.{nat_cmp}
use Rattle.std.specs.Str.Lines.{lines}
use Rattle.base_text_outside.specs.declared.cfg.CfgAtom.{CfgAtom}
use Rattle.base_text_outside.specs.declared.command.Output.{Output}
use Rattle.cargo_msgs.specs.declared.diagnostic.Diagnostic.TheViews.{out-Diagnostic}
use Rattle.cargo_msgs.specs.Messages.{message_of}
use Rattle.cargo_msgs.specs.declared.artifact.Artifact.{Artifact}
use Rattle.cargo_msgs.specs.declared.build.BuildScript.{BuildScript}
use Rattle.cargo_msgs.specs.declared.messages.Message.{Message}
use Rattle.cargo_msgs.specs.declared.messages.Message.TheVariants as message
use Rattle.pm_cargo.specs.Workspace.{Workspace}
use Rattle.pm_cargo_packages.specs.declared.package.PackageData.{PackageData}
use Rattle.pm_cargo_reading.specs.Nodes.{place_of_package}
use Rattle.pm_tools.specs.Artifact.{output_after_artifact}
use Rattle.pm_cargo.specs.Output.{default_output}
use Rattle.base_values.specs.Outcome.{◌>>=◌, take_each}
use Rattle.pm_tools.specs.Reading.{Reading}
use Rattle.pm_tools.specs.Script.{named_atoms, invalid_cfg_line, output_after_script}
use Rattle.pm_cargo.specs.contracts.output.BuildScriptOutput as stored
use Rattle.pm_cargo.specs.declared.output.BuildScriptOutput.{BuildScriptOutput}

-- the outputs of packages, each under the number of its package
abbrev pub Outputs : Type 0
Outputs = FinMap nat_cmp BuildScriptOutput

-- outputs are stored as a map
abbrev pub outputs_code : Coded Outputs
outputs_code = code {R = nat_cmp} coded_ℕ stored.the_row.coded

-- what a build gives: the outputs, and why it failed, if it did
pub record BuildScripts : Type 0 where
  pub outputs : Outputs
  pub error : Option (List ℕ)

-- both are stored side by side
abbrev pub build_scripts_code : Coded BuildScripts
build_scripts_code =
    code_by (Outputs × Option (List ℕ)) (coded× outputs_code (coded_option (coded_list coded_ℕ)))
    (λ s. (s.outputs, s.error)) (λ p. record { outputs = p.0; error = p.1 }) (λ _. refl)

-- what is known while messages are read: the outputs, and the lines of errors, each with a newline
pub record BuildState : Type 0 where
  pub outputs : Outputs
  pub errors : List ℕ

-- both are stored side by side
abbrev pub build_state_code : Coded BuildState
build_state_code =
    code_by (Outputs × List ℕ) (coded× outputs_code (coded_list coded_ℕ)) (λ s. (s.outputs, s.errors))
    (λ p. record { outputs = p.0; errors = p.1 }) (λ _. refl)

-- so many packages start with the default output
abbrev pub default_outputs : ℕ → Outputs
default_outputs count =
    fold (λ outputs number. insert outputs number default_output) empty (range_with_len 0 count)

-- the errors with a line more
abbrev pub with_line : List ℕ → List ℕ → List ℕ
with_line errors line = errors ++ (line ++ codes "\n")

-- the state with a line more
abbrev pub with_error : BuildState → List ℕ → BuildState
with_error s line = record s { errors = with_line s.errors line }

-- an output of a package, changed, in its place among the others
abbrev pub changed_at : (BuildScriptOutput → Reading BuildScriptOutput) → Outputs → ℕ
    → Option BuildScriptOutput → Reading Outputs
changed_at change outputs place None = Ok outputs
changed_at change outputs place (Some output) = change output >>= λ new. Ok (insert outputs place new)

-- the outputs after a change of that of the package at a place
abbrev pub outputs_after : (BuildScriptOutput → Reading BuildScriptOutput) → Outputs → ℕ → Reading Outputs
outputs_after change outputs place = changed_at change outputs place (get outputs place)

-- the state after such a change
abbrev pub change_output : BuildState → (BuildScriptOutput → Reading BuildScriptOutput) → ℕ
    → Reading BuildState
change_output s change place =
    outputs_after change s.outputs place >>= λ outputs. Ok (record s { outputs = outputs })

-- an artifact of the package at a place; that of an unknown package is skipped
abbrev pub take_artifact : BuildState → Artifact → Option ℕ → Reading BuildState
take_artifact s artifact None = Ok s
take_artifact s artifact (Some place) = change_output s (output_after_artifact artifact) place

-- a script of a package at a place: with an invalid atom it gives a line alone
abbrev pub take_atoms : BuildState → BuildScript → ℕ → Result (List CfgAtom) (List ℕ) → Reading BuildState
take_atoms s script place (Err invalid) = Ok (with_error s (invalid_cfg_line invalid))
take_atoms s script place (Ok atoms) = change_output s (output_after_script script atoms) place

-- a script of the package at a place; that of an unknown package is skipped
abbrev pub take_script : BuildState → BuildScript → Option ℕ → Reading BuildState
take_script s script None = Ok s
take_script s script (Some place) = take_atoms s script place (named_atoms script.cfgs)

-- what the compiler said, as it rendered it, if it did
abbrev pub take_rendered : BuildState → Option (List ℕ) → BuildState
take_rendered s None = s
take_rendered s (Some text) = with_error s text

-- one more message. Those of unknown packages are skipped, except what the compiler said
abbrev pub take_message : List PackageData → BuildState → Message → Reading BuildState
take_message packages s (message.CompilerArtifact a) =
    take_artifact s a (place_of_package packages a.package_id.repr)
take_message packages s (message.BuildScriptExecuted script) =
    take_script s script (place_of_package packages script.package_id.repr)
take_message packages s (message.CompilerMessage m) = Ok (take_rendered s (out-Diagnostic m.message).rendered)
take_message packages s (message.BuildFinished end) = Ok s
take_message packages s (message.TextLine line) = Ok s

-- the lines of the standard output, each of which is a message or a text
abbrev pub take_output_line : List PackageData → BuildState → List ℕ → Reading BuildState
take_output_line packages s line = take_message packages s (message_of line)

-- why a build failed: nothing where it did not, else the lines, or a text that stands for none
abbrev pub error_of : Bool → List ℕ → Option (List ℕ)
error_of ok errors =
    if ok then None else Some (if bytes_eq errors [] then codes "cargo check failed" else errors)

-- what a state and the lines of the error stream give
abbrev pub scripts_of : Output → BuildState → BuildScripts
scripts_of output s = record {
  outputs = s.outputs;
  error = error_of output.ok (fold with_line s.errors (lines output.err));
}

-- what is known before the first message
abbrev pub start_state : List PackageData → BuildState
start_state packages = record { outputs = default_outputs (length packages); errors = [] }

-- what a build gives some packages, by what its command wrote
unfoldable pub outputs_among : List PackageData → Output → Reading BuildScripts
outputs_among packages output =
    take_each (take_output_line packages) (start_state packages) (lines output.out)
    >>= λ s. Ok (scripts_of output s)

-- what a build of a workspace gives, by what its command wrote
abbrev pub outputs_of : Workspace → Output → Reading BuildScripts
outputs_of w output = outputs_among w.packages output
