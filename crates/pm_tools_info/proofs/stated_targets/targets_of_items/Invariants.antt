use Rattle.std.proofs.Common.{◌≡◌, ◌++◌, drop}
use Rattle.std.specs.Option.{option_copied, option_map}
use Rattle.toml.specs.View.{items_view}
use Rattle.pm_tools_info.specs.StatedTargets.{statement_root, targets_from}
use Rattle.pm_tools_info.proofs.stated_targets.targets_of_items.Given as goal

abbrev pub invariant-loop-place : goal.invariant-loop-place
invariant-loop-place l =
    option_map (λ more. l.targets.items ++ more) (targets_from (statement_root (option_copied l.statement)) l.place (items_view (drop l.place l.items)))
    ≡ targets_from (statement_root (option_copied l.statement)) 0 (items_view l.items)
