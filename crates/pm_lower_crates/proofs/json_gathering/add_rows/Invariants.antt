use Rattle.std.proofs.Common.{◌≡◌, drop}
use Rattle.pm_json.specs.Queries.{crates_in}
use Rattle.pm_lower_crates.specs.Facts.{facts_of}
use Rattle.pm_lower_crates.proofs.JsonRowLemmas.{Gathers}
use Rattle.pm_lower_crates.proofs.json_gathering.add_rows.Given as goal

abbrev pub invariant-loop-place : goal.invariant-loop-place
invariant-loop-place g l = record {
  gathered : Gathers (g.L.Loader.files l.initial.loader) (facts_of g.O.BuildOutputs.output_at g.O.BuildOutputs.is_failed l.project.facts.now) l.project.json.now (crates_in l.project.json.now) l.initial.graph
      l.place (drop l.place (crates_in l.project.json.now)) l.graph l.rows.items;
  loader : g.L.Loader.files l.loader ≡ g.L.Loader.files l.initial.loader;
}
