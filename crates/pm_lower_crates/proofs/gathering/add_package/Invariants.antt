use Rattle.std.proofs.Common.{drop}
use Rattle.base_text_paths.specs.Arena.{number_of}
use Rattle.pm_lower_crates.specs.Facts.{facts_of}
use Rattle.pm_lower_crates.proofs.RowLemmas.{Gathers}
use Rattle.pm_lower_crates.proofs.gathering.add_package.Given as goal

abbrev pub invariant-loop-place : goal.invariant-loop-place
invariant-loop-place g l =
    Gathers (facts_of g.O.BuildOutputs.output_at g.O.BuildOutputs.is_failed l.project.facts.now) l.project.workspace.now (number_of l.id) l.of l.files
    (l.place, drop l.place l.files) l.initial.graph l.graph l.rows.items l.library
