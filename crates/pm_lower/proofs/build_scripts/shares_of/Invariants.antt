use Rattle.std.proofs.Common.{◌≡◌, map, take}
use Rattle.pm_lower.specs.Builds.{kind_share}
use Rattle.pm_lower.proofs.build_scripts.shares_of.Given as goal

abbrev pub invariant-loop-project : goal.invariant-loop-project
invariant-loop-project l = l.each.items ≡ map (λ p. kind_share l.build p.kind) (take l.project-index l.projects)
