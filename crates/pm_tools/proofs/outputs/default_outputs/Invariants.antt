use Rattle.std.proofs.Common.{◌≡◌, fold, map}
use Rattle.std.specs.FinMap.{empty, insert}
use Rattle.base_text_paths.specs.Arena.{number_of}
use Rattle.pm_cargo.specs.Output.{default_output}
use Rattle.pm_tools.proofs.outputs.default_outputs.Given as goal

abbrev pub invariant-loop-number : goal.invariant-loop-number
invariant-loop-number l = l.outputs ≡ fold (λ outputs number. insert outputs number default_output) empty (map (λ p. number_of p.0) l.yielded)
