use Rattle.std.proofs.Common.{◌≡◌, ◌&&◌, ℕ, List, take}
use Rattle.std.specs.BTreeSet.{contains_text}
use Rattle.std.specs.List.{list_any}
use Rattle.pm_cargo.specs.Queries.{is_feature_of}
use Rattle.pm_cargo.proofs.cargo_workspace.CargoWorkspace.workspace_features.Given as goal

abbrev pub invariant-loop-package : goal.invariant-loop-package
invariant-loop-package l = (text : List ℕ) → contains_text l.features text ≡ list_any (λ p. p.is_member && is_feature_of text p) (take l.package-index l.package-items)
