-- How the tools of a toolchain are started: `rustc` by its path, where the toolchain's directory is known and
-- the tree holds it there.
use Rattle.std.specs.Prelude.{ℕ, if◌then◌else◌, List, Option, Some, None, codes, is_some}
use Rattle.base_text_paths.specs.Paths.{components_with_tail, path_text}
use Rattle.base_values.specs.ByText.{value_at}
use Rattle.base_text_outside.specs.declared.command.CommandLine.{CommandLine}
use Rattle.base_text.specs.Tools.{tool_command}
use Rattle.base_text.specs.declared.tool.Tool.{Tool}
use Rattle.base_text.specs.declared.tool_root.ToolRoot.{ToolRoot}
use Rattle.base_text.specs.Tree.{TreeFiles, holds_path}
use Rattle.pm_tools_ask.specs.Ask.{Means}
use Rattle.pm_tools_ask.specs.Toolchain.{Toolchain}
use Rattle.pm_tools_ask.specs.declared.rust_lib_src.RustLibSrcWorkspace.TheVariants.{Empty}

-- a toolchain whose directories are given, and from which nothing has been read
abbrev pub sysroot_of : Option (List ℕ) → Option (List ℕ) → Toolchain
sysroot_of root src = record { root = root; src = src; workspace = Empty }

-- no toolchain
abbrev pub empty_sysroot : Toolchain
empty_sysroot = sysroot_of None None

-- a path, where the tree holds it
abbrev pub held_path : TreeFiles → List ℕ → Option (List ℕ)
held_path files path = if holds_path files path then Some path else None

-- the path of `rustc` below a directory, where the tree holds it
abbrev pub rustc_below : TreeFiles → Option (List ℕ) → Option (List ℕ)
rustc_below files None = None
rustc_below files (Some root) = held_path files (path_text (components_with_tail root (codes "bin/rustc")))

-- the toolchain of a directory, if one is known, as commands are started by it: what was read of its sources
-- plays no part
abbrev pub tool_root : Option (List ℕ) → Means → ToolRoot
tool_root root means = record {
  tools = means.tools;
  root = root;
  rustc = rustc_below means.files root;
  toolchain_set = is_some (value_at (codes "RUSTUP_TOOLCHAIN") means.process_env);
}

-- the command that starts a tool in a directory, with no words and the variables that are given beside those
-- of the process
abbrev pub start_command : Option (List ℕ) → Tool → List ℕ → Means → CommandLine
start_command root tool dir means = tool_command (tool_root root means) tool dir means.extra_env
