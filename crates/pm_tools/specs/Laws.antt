-- Which builds the law of their equality speaks of: paths are equal by their components, so those whose paths
-- are clean, as the text of every path is.
use Rattle.std.specs.FinMap.{entries}
use Rattle.std.specs.List.{All}
use Rattle.pm_tools.specs.Outputs.{BuildScripts}
use Rattle.pm_cargo.specs.OutputLaws.{HasCleanOutput}

-- every path that a build gives is clean
abbrev pub HasCleanBuild : BuildScripts → Type 0
HasCleanBuild scripts = All (λ entry. HasCleanOutput entry.1) (entries scripts.outputs)
