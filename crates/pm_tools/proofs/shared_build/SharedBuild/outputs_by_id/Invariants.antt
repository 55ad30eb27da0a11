use Rattle.std.proofs.Common.{◌≡◌, length}
use Rattle.pm_tools.proofs.SharedLemmas.{given_first}
use Rattle.pm_tools.proofs.shared_build.SharedBuild.outputs_by_id.Given as goal

abbrev pub invariant-loop-package : goal.invariant-loop-package
invariant-loop-package l = l.outputs ≡ given_first l.self.packages l.self.scripts.outputs l.workspace.packages (length l.yielded)
