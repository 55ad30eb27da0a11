use Rattle.std.proofs.Common.{◌<◌, ◌^◌, ℕ, List, map, ap, subst, sym, ◌∙◌}
use Rattle.std.specs.List.{All}
use Rattle.graph_base.specs.Edges.{row}
use Rattle.crate_graph_values.specs.declared.crate_data.Dependency.{Dependency}
use Rattle.input_db.specs.Identity.{Table, crate_edges}
use Rattle.input_db.proofs.TableLemmas.{dependencies_fit, held_at, row_of}
use Rattle.input_db.proofs.crates_map.CratesMap.dependencies.Goals as goal

pub returns-clause-edges : goal.returns-clause-edges
returns-clause-edges c =
    let held = held_at c.self.inside.entries.entries c.args.krate c.index.result.now c.index.ensures in
    ap (map (λ (dep : Dependency ℕ). dep.crate_id)) c.as_slice.ensures
    ∙ sym (row_of c.self.inside.entries.entries c.args.krate c.index.result.now held)
    ∙ ap (λ (table : Table). row (crate_edges table) c.args.krate) c.self.view_is

pub returns-clause-fit : goal.returns-clause-fit
returns-clause-fit c =
    let held = held_at c.self.inside.entries.entries c.args.krate c.index.result.now c.index.ensures in
    subst (λ (deps : List (Dependency ℕ)). All (λ dep. dep.crate_id < 2 ^ 32) deps) (sym c.as_slice.ensures)
    (dependencies_fit c.self.inside.entries.entries c.args.krate c.index.result.now c.self.invariant held)
