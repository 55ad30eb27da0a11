-- Questions that the tools of a toolchain are asked: a command with its words.
use Rattle.std.specs.Prelude.{ℕ, List, Option}
use Rattle.base_text_outside.specs.declared.command.CommandLine.{CommandLine}
use Rattle.base_text.specs.declared.tool.Tool.{Tool}
use Rattle.pm_tools_ask.specs.Ask.{Means}
use Rattle.pm_tools_ask.specs.Sysroot.{start_command}

-- the command that starts a tool of a toolchain's directory, if one is known, in a directory with these words
abbrev pub question : Option (List ℕ) → Tool → List ℕ → List (List ℕ) → Means → CommandLine
question root tool dir words means = record (start_command root tool dir means) { words = words }
