-- What a search looks at, and the nodes between the two of a new edge that it does not find.
use Rattle.std.specs.Prelude.{◌≡◌, ℕ, ◌<◌, ◌≤◌, Bool, true, false, List, length, map, nat_lt, slice_index, slice_index_or, if◌then◌else◌}
use Rattle.std.specs.List.{range_with_len}
use Rattle.std.specs.List.Sorted.{IsPermutation}
use Rattle.graph_base.specs.Edges.{row}
use Rattle.graph_base.specs.Trail.{Trail}
use Rattle.graph_base.specs.Listing.{AreAscending}
use Rattle.crate_graph.specs.Placing.{Placement}

-- what an edge of a node leads to: the node itself where the edge leads below a rank
abbrev pub stays_above : List ℕ → ℕ → ℕ → ℕ → ℕ
stays_above ranks from node target =
    if nat_lt (slice_index ranks target) (slice_index ranks from) then node else target

-- the rows of a graph, in which each edge that leads below a node's rank leads back
abbrev pub bounded : List ℕ → ℕ → List (List ℕ) → List (List ℕ)
bounded ranks from rows =
    map (λ node. map (stays_above ranks from node) (row rows node)) (range_with_len 0 (length rows))

-- the nodes without a mark from one node up to another, in the order of their ranks
pub record AreUnmarked (marks : List Bool) (ranks : List ℕ) (from to : ℕ) (nodes : List ℕ) : Type 0 where
  pub there : (k : ℕ) → k < length nodes → slice_index nodes k < length ranks
  pub unmarked : (k : ℕ) → k < length nodes → slice_index_or marks (slice_index nodes k) false ≡ false
  pub from_low : (k : ℕ) → k < length nodes → slice_index ranks from ≤ slice_index ranks (slice_index nodes k)
  pub under : (k : ℕ) → k < length nodes → slice_index ranks (slice_index nodes k) < slice_index ranks to
  pub ascending : (j k : ℕ) → j < k → k < length nodes
      → slice_index ranks (slice_index nodes j) < slice_index ranks (slice_index nodes k)
  pub all : (n : ℕ) → n < length ranks → slice_index ranks from ≤ slice_index ranks n
      → slice_index ranks n < slice_index ranks to
      → slice_index_or marks n false ≡ false → (k : ℕ) × (k < length nodes) × (slice_index nodes k ≡ n)

-- what a search marked and what it did not is split at a node: the others go above it, or what is found goes
-- below another
pub record IsPlaced (ranks : List ℕ) (from to : ℕ) (t : Trail) (p : Placement) : Type 0 where
  pub above : p.above ≡ true → (p.mark ≡ to) × AreUnmarked t.marks ranks from to p.nodes
  pub below : p.above ≡ false → (p.mark ≡ from) × IsPermutation t.nodes p.nodes × AreAscending ranks p.nodes
