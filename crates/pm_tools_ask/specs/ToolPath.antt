-- The path of a tool of a toolchain: what `rustup which` writes, or the tool's name where nothing is known.
use Rattle.std.specs.Prelude.{ℕ, List, [], ◌∷◌, Option, Some, None, codes, fold}
use Rattle.std.specs.Str.{trim_end}
use Rattle.base_values.specs.ByText.{with_value}
use Rattle.base_text_outside.specs.Runner.{answer_of}
use Rattle.base_text_outside.specs.declared.command.CommandLine.{CommandLine}
use Rattle.base_text_outside.specs.declared.command.Output.{Output}
use Rattle.base_text.specs.Tools.{Variables, tool_command, tool_name}
use Rattle.base_text.specs.declared.tool.Tool.{Tool}
use Rattle.base_text.specs.declared.tool.Tool.TheVariants.{Cargo, Rustc, Rustup}
use Rattle.pm_tools_ask.specs.Ask.{Means}
use Rattle.pm_tools_ask.specs.Sysroot.{tool_root}

-- the word by which `rustup` knows a tool
abbrev pub tool_word : Tool → List ℕ
tool_word Cargo = codes "cargo"
tool_word Rustc = codes "rustc"
tool_word Rustup = codes "rustup"

-- the variables with those of an environment set over them
abbrev pub with_environment : List (List ℕ × List ℕ) → Variables → Variables
with_environment env variables =
    fold (λ set variable. with_value variable.0 (Some variable.1) set) variables env

-- the question for the path of a tool
abbrev pub path_question : Option (List ℕ) → Tool → List ℕ → List (List ℕ × List ℕ) → Means → CommandLine
path_question root tool dir env means =
    record (tool_command (tool_root root means) Rustup dir (with_environment env means.extra_env))
    { words = codes "which" ∷ tool_word tool ∷ [] }

-- the path that an output says, or the name where there is no output
abbrev pub answered_path : List ℕ → Option Output → List ℕ
answered_path name None = name
answered_path name (Some output) = trim_end output.out

-- the path of a tool by the answer to that question, where there is a toolchain to ask of
abbrev pub path_by_answer : Option (List ℕ) → List ℕ → Option Output → List ℕ
path_by_answer None name answer = name
path_by_answer (Some root) name answer = answered_path name answer

-- the path of a tool of a toolchain's directory, if one is known
abbrev pub tool_path : Option (List ℕ) → Tool → List ℕ → List (List ℕ × List ℕ) → Means → List ℕ
tool_path root tool dir env means =
    path_by_answer root (tool_name means.tools tool)
    (answer_of means.answers (path_question root tool dir env means))
