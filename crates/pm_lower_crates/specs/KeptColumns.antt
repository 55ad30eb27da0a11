-- Keeping edges that have more to them than their ends: which of them are kept is settled by their ends
-- alone.
use Rattle.std.specs.Prelude.{ℕ, ◌++◌, fold, filter, map, if◌then◌else◌, Bool, ◌&&◌, List, [], ◌∷◌}
use Rattle.graph_base.specs.EdgeList.{Edge, reach_over}

-- one more wanted edge, which is kept unless its target reaches its source
abbrev pub keep_by : {E : Type 0} → (E → Edge) → List E → E → List E
keep_by ends kept e = if reach_over (map ends kept) (ends e).1 (ends e).0 then kept else kept ++ e ∷ []

-- the edges of a front, and after them those that are kept of the wanted ones
unfoldable pub kept_by_ends : {E : Type 0} → (E → Edge) → List E → List E → List E
kept_by_ends ends front wanted = fold (keep_by ends) front wanted

-- the edges both ends of which pass
abbrev pub among_by : {E : Type 0} → (E → Edge) → (ℕ → Bool) → List E → List E
among_by ends passes edges = filter (λ e. passes (ends e).0 && passes (ends e).1) edges
