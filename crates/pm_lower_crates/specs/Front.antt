-- What the rows of a project are put behind: a graph of other crates, as those of a toolchain's libraries,
-- and the ones of these that each row depends on.
use Rattle.std.specs.Prelude.{ℕ, ◌<◌, length, IfSome}
use Rattle.std.specs.List.{All}
use Rattle.crate_graph.specs.Graph.{Graph, IsWellMadeGraph}
use Rattle.pm_lower_crates.specs.WantedEdges.{Public}

-- the graph, and its public crates by their numbers in it
pub record Front : Type 0 where
  pub graph : Graph
  pub public : Public

-- the public crates are among so many
pub record IsPublicIn (count : ℕ) (public : Public) : Type 0 where
  pub rows : All (λ dep. dep.target < count) public.rows
  pub macros : IfSome public.macros (λ target. target < count)

-- what every front keeps: its graph is one, and has the public crates
pub record IsFront (front : Front) : Type 0 where
  pub well_made : IsWellMadeGraph front.graph.crates front.graph.limit
  pub public : IsPublicIn (length front.graph.crates) front.public
