-- The crates of a graph, the edges between them, and what every graph keeps.
use Rattle.std.specs.Prelude.{◌≡◌, ℕ, ◌<◌, ◌≤◌, ◌^◌, List, ◌++◌, ◌∷◌, [], map, length, codes, Some, slice_get, slice_set}
use Rattle.std.specs.List.{All}
use Rattle.base_text_paths.specs.Arena.{number_of}
use Rattle.base_text_paths.specs.declared.arena.Idx.{Idx}
use Rattle.graph_base.specs.Edges.{IsInRange}
use Rattle.graph_base.specs.Reach.{IsAcyclic}
use Rattle.crate_graph.specs.Insertion.{MakesRoom}
use Rattle.crate_graph.specs.Order.{IsOrderOf, Ranking, with_next_node}
use Rattle.crate_graph_values.specs.Laws.{HasCleanMacroDirectory}
use Rattle.crate_graph_values.specs.declared.builder.CrateBuilder.{CrateBuilder}
use Rattle.crate_graph_values.specs.declared.crate_data.Dependency.{Dependency}
use Rattle.crate_graph_values.specs.declared.crate_data.CrateTag.{CrateTag}

-- the number of the crate that a dependency names
abbrev pub target_of : Dependency (Idx CrateTag) → ℕ
target_of dep = number_of dep.crate_id

-- the crates that a crate depends on, in the order of its list
abbrev pub dependency_row : CrateBuilder → List ℕ
dependency_row krate = map target_of krate.basic.dependencies

-- the edges of the graph: from each crate to those that it depends on
abbrev pub edges : List CrateBuilder → List (List ℕ)
edges crates = map dependency_row crates

-- what every graph keeps: no more crates than the limit, no dependency that leads out of it, no cycle, and
-- clean paths
pub record IsWellMadeGraph (crates : List CrateBuilder) (limit : ℕ) : Type 0 where
  pub fits : limit < 2 ^ 32
  pub within : length crates ≤ limit
  pub in_range : IsInRange (edges crates)
  pub acyclic : IsAcyclic (edges crates)
  pub clean : All (λ krate. HasCleanMacroDirectory krate.basic) crates

-- a graph: the limit of its crates, the crates, each under its number, and the order of their ranks
pub record Graph : Type 0 where
  pub limit : ℕ
  pub crates : List CrateBuilder
  pub order : Ranking

-- what every graph keeps with its ranks: each crate has one, and each dependency leads to a lower one
pub record IsRanked (graph : Graph) : Type 0 where
  pub well_made : IsWellMadeGraph graph.crates graph.limit
  pub ranks : IsOrderOf graph.order (edges graph.crates)

-- an attribute as code has it
abbrev pub attribute : List ℕ → List ℕ
attribute text = codes "#![" ++ text ++ codes "]"

-- the new graph has one more crate, behind the others, which has the highest rank, and the same limit
pub record AddsCrate (old new : Graph) (krate : CrateBuilder) : Type 0 where
  pub limit : new.limit ≡ old.limit
  pub crates : new.crates ≡ old.crates ++ krate ∷ []
  pub order : new.order ≡ with_next_node old.order

-- the crate with one more dependency, behind those that it had
abbrev pub with_dependency : CrateBuilder → Dependency (Idx CrateTag) → CrateBuilder
with_dependency krate dep =
    record krate { basic = record krate.basic { dependencies = krate.basic.dependencies ++ dep ∷ [] } }

-- the crate of a number has one more dependency, and all other crates are as they were
abbrev pub HasDependency : List CrateBuilder → List CrateBuilder → ℕ → Dependency (Idx CrateTag) → Type 0
HasDependency old new from dep =
    (krate : CrateBuilder) → slice_get old from ≡ Some krate
    → new ≡ slice_set old from (with_dependency krate dep)

-- the new graph has the dependency, and all else of its crates and its limit is that of the old one; of the
-- ranks only those from the source's up to the target's may change
pub record AddsDependency (old new : Graph) (from : ℕ) (dep : Dependency (Idx CrateTag)) : Type 0 where
  pub limit : new.limit ≡ old.limit
  pub crates : HasDependency old.crates new.crates from dep
  pub order : MakesRoom (edges old.crates) from (target_of dep) old.order new.order
