-- The edges that are kept of those wanted, where edges of a front are there before.
use Rattle.std.specs.Prelude.{ℕ, ◌++◌, fold, if◌then◌else◌, List, [], ◌∷◌}
use Rattle.graph_base.specs.EdgeList.{Edge, graph_of, reach_over}
use Rattle.graph_base.specs.Reach.{Reaches}

-- one more wanted edge, which is kept unless its target reaches its source
abbrev pub keep_pair : List Edge → Edge → List Edge
keep_pair kept e = if reach_over kept e.1 e.0 then kept else kept ++ e ∷ []

-- the edges of a front, and after them those that are kept of the wanted ones
unfoldable pub pairs_kept_from : List Edge → List Edge → List Edge
pairs_kept_from front wanted = fold keep_pair front wanted

-- the edges that are kept of those wanted, where none are there before
abbrev pub kept_pairs : List Edge → List Edge
kept_pairs wanted = pairs_kept_from [] wanted

-- ---- the same as a relation, over the graph of the nodes below a count

-- the target of the edge reaches its source over some edges
abbrev pub PairClosesCycle : ℕ → List Edge → Edge → Type 0
PairClosesCycle count edges e = Reaches (graph_of count edges) e.1 e.0

-- from the edges there so far, over edges that come next, to the edges there then
pub data KeepsPairs (count : ℕ) : List Edge → List Edge → List Edge → Type 0 where
  none : {kept : List Edge} → KeepsPairs count kept [] kept
  keeps : {kept more new : List Edge} {e : Edge} → (PairClosesCycle count kept e → ⊥)
      → KeepsPairs count (kept ++ e ∷ []) more new → KeepsPairs count kept (e ∷ more) new
  drops : {kept more new : List Edge} {e : Edge} → PairClosesCycle count kept e
      → KeepsPairs count kept more new → KeepsPairs count kept (e ∷ more) new
