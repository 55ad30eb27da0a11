use Rattle.std.proofs.Common.{◌≡◌, filter, map, take}
use Rattle.pm_cargo.specs.Queries.{is_feature}
use Rattle.pm_tools.proofs.features.known_features.Given as goal

-- the names are those of the features so far that the workspace has
abbrev pub invariant-loop-feature : goal.invariant-loop-feature
invariant-loop-feature l = map (λ name. name.now) l.names.items ≡ filter (is_feature l.workspace) (take l.feature-index l.features)
