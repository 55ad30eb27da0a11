use Rattle.std.proofs.Common.{◌≡◌, ◌++◌, take}
use Rattle.std.specs.List.{flat_map}
use Rattle.pm_lower_crates.specs.Gathering.{libraries_of, macros_of}
use Rattle.pm_lower_crates.specs.Rows.{library}
use Rattle.pm_lower_crates.proofs.edges.add_first.Given as goal

abbrev pub invariant-loop-row : goal.invariant-loop-row
invariant-loop-row l = l.edges.items ≡ l.initial.edges.items ++ flat_map (macros_of l.public) (take l.row-index l.row-items)

abbrev pub invariant-loop-from : goal.invariant-loop-from
invariant-loop-from l = l.edges.items ≡ l.initial.edges.items ++ flat_map (libraries_of l.public (library l.owner.rows)) (take l.from-index l.from-items)
