-- What is written so far is that of the packages so far.
use Rattle.std.proofs.Common.{◌≡◌, ◌++◌, string_bytes}
use Rattle.live_page.specs.GeneratedScript.{files_text}
use Rattle.live_page.proofs.generated_lines.push_files.Given as goal

abbrev pub invariant-loop-number : goal.invariant-loop-number
invariant-loop-number l = string_bytes l.script ≡ string_bytes l.initial.script ++ files_text l.number
