use Rattle.std.proofs.Common.{subst}
use Rattle.graph_base.specs.Edges.{IsInRange}
use Rattle.input_db.specs.Identity.{Table, crate_edges}
use Rattle.input_db.proofs.TableLemmas.{in_range}
use Rattle.input_db.proofs.crates_map.CratesMapGraph.count.Goals as goal

pub returns-clause-in_range : goal.returns-clause-in_range
returns-clause-in_range c =
    subst (λ (table : Table). IsInRange (crate_edges table)) c.self.view_is
    (in_range c.self.inside.entries.entries c.self.invariant)
