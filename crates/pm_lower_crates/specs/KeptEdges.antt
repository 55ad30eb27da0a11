-- The edges that are kept of those wanted: in their order each, unless its target reaches its source over the
-- edges kept before. Each row reaches itself. There may be edges before the first, as those of a toolchain's
-- libraries.
use Rattle.std.specs.Prelude.{ℕ, ◌++◌, List, [], ◌∷◌, map, filter, ◌==◌}
use Rattle.graph_base.specs.EdgeList as graph
use Rattle.graph_base.specs.Reach.{Reaches}
use Rattle.pm_lower_crates.specs.KeptColumns.{keep_by, kept_by_ends}
use Rattle.pm_lower_crates.specs.WantedEdges.{Dep, Edge}

-- the ends of an edge: its source and its target
abbrev pub ends : Edge → graph.Edge
ends e = (e.source, e.dep.target)

-- one more wanted edge, which is kept unless its target reaches its source
abbrev pub keep : List Edge → Edge → List Edge
keep kept e = keep_by ends kept e

-- the edges that are there before, and behind them those that are kept of the wanted ones
abbrev pub kept_from : List Edge → List Edge → List Edge
kept_from front wanted = kept_by_ends ends front wanted

-- the edges that are kept of those wanted
abbrev pub kept_edges : List Edge → List Edge
kept_edges wanted = kept_from [] wanted

-- the dependencies that some edges give a row, in their order
abbrev pub deps_of : List Edge → ℕ → List Dep
deps_of edges row = map (λ e. e.dep) (filter (λ e. e.source == row) edges)

-- ---- the same as a relation, over the graph of the rows below a count

-- the target of the edge reaches its source over some edges
abbrev pub ClosesCycle : ℕ → List Edge → Edge → Type 0
ClosesCycle count edges e = Reaches (graph.graph_of count (map ends edges)) e.dep.target e.source

-- from the edges kept so far, over edges that come next, to the edges kept then
pub data Keeps (count : ℕ) : List Edge → List Edge → List Edge → Type 0 where
  none : {kept : List Edge} → Keeps count kept [] kept
  keeps : {kept more new : List Edge} {e : Edge} → (ClosesCycle count kept e → ⊥)
      → Keeps count (kept ++ e ∷ []) more new → Keeps count kept (e ∷ more) new
  drops : {kept more new : List Edge} {e : Edge} → ClosesCycle count kept e → Keeps count kept more new
      → Keeps count kept (e ∷ more) new

-- the kept edges among those wanted
abbrev pub AreKept : ℕ → List Edge → List Edge → Type 0
AreKept count wanted kept = Keeps count [] wanted kept

-- both ends of the edge are rows below a count
abbrev pub IsWithinRows : ℕ → Edge → Type 0
IsWithinRows count e = graph.IsEdgeWithin count (ends e)
