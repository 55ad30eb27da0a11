use Rattle.std.proofs.Common.{◌≤◌, drop, length}
use Rattle.pm_lower_crates.specs.Facts.{facts_of}
use Rattle.pm_lower_crates.proofs.RowLemmas.{GathersAll}
use Rattle.pm_lower_crates.proofs.gathering.add_rows.Given as goal

abbrev pub invariant-loop-id : goal.invariant-loop-id
invariant-loop-id g l = record {
  gathered : GathersAll (facts_of g.O.BuildOutputs.output_at g.O.BuildOutputs.is_failed l.project.facts.now) l.project.workspace.now l.project.workspace.now.packages l.files (length l.yielded)
      (drop (length l.yielded) l.project.workspace.now.packages) (drop (length l.yielded) l.files) l.initial.graph l.graph l.owners.items;
  within : length l.graph.crates ≤ l.graph.limit;
}
