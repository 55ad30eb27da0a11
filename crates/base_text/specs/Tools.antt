-- The command by which a tool of a toolchain is started: the program, by the directory of the toolchain, and
-- the variable that gives `rustup` the toolchain that is meant.
use Rattle.std.specs.Prelude.{ℕ, Bool, ◌||◌, if◌then◌else◌, List, [], codes, Option, Some, None, is_some}
use Rattle.base_values.specs.ByText.{value_at, with_value}
use Rattle.base_text_outside.specs.declared.command.CommandLine.{CommandLine}
use Rattle.base_text.specs.declared.tool.Tool.{Tool}
use Rattle.base_text.specs.declared.tool.Tool.TheVariants.{Cargo, Rustc, Rustup}
use Rattle.base_text.specs.declared.tool.Tools.{Tools}
use Rattle.base_text.specs.declared.tool_root.ToolRoot.{ToolRoot}

-- variables by ascending name, each with its value, or removed where it has none
abbrev pub Variables : Type 0
Variables = List (List ℕ × Option (List ℕ))

-- the name that a tool is started by
abbrev pub tool_name : Tools → Tool → List ℕ
tool_name tools Cargo = tools.cargo
tool_name tools Rustc = tools.rustc
tool_name tools Rustup = tools.rustup

-- the path that a tool is started by: that of `rustc`, where there is a root that holds it
abbrev pub rooted_tool_path : ToolRoot → Tool → Option (List ℕ)
rooted_tool_path root Cargo = None
rooted_tool_path root Rustc = if is_some root.root then root.rustc else None
rooted_tool_path root Rustup = None

-- the toolchain is named by the process, or by the variables
abbrev pub names_toolchain : ToolRoot → Variables → Bool
names_toolchain root envs = root.toolchain_set || is_some (value_at (codes "RUSTUP_TOOLCHAIN") envs)

-- the variables, with the root as the toolchain
abbrev pub with_toolchain : Option (List ℕ) → Variables → Variables
with_toolchain None envs = envs
with_toolchain (Some root) envs = with_value (codes "RUSTUP_TOOLCHAIN") (Some root) envs

-- the variables of a tool that is started by its name: the toolchain is the root, unless one is named already
abbrev pub named_variables : ToolRoot → Variables → Variables
named_variables root envs = if names_toolchain root envs then envs else with_toolchain root.root envs

-- the program, and its variables: a path stands for its own toolchain
abbrev pub start_of : Option (List ℕ) → ToolRoot → Tool → Variables → List ℕ × Variables
start_of (Some path) root tool envs = (path, envs)
start_of None root tool envs = (tool_name root.tools tool, named_variables root envs)

-- the command that starts a tool in a directory, with no words
abbrev pub tool_command : ToolRoot → Tool → List ℕ → Variables → CommandLine
tool_command root tool dir envs =
    let start = start_of (rooted_tool_path root tool) root tool envs in
    record { program = start.0; words = []; dir = dir; env = start.1 }
