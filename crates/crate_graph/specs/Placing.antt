-- Nodes go directly below another, or directly above it: they and the others keep their order, each among
-- themselves.
use Rattle.std.specs.Prelude.{◌≡◌, ℕ, ◌<◌, Bool, true, false, List, [], length}
use Rattle.graph_base.specs.Blocks.{FitAbove, FitBelow, RearrangesAbove, RearrangesBelow}
use Rattle.crate_graph.specs.Order.{IsOrder, Ranking}

-- nodes, from the lowest up, that go directly below a node, or directly above it
pub record Placement : Type 0 where
  pub above : Bool
  pub mark : ℕ
  pub nodes : List ℕ

-- the nodes of a list go below a node
abbrev pub placement_below : ℕ → List ℕ → Placement
placement_below mark nodes = record { above = false; mark = mark; nodes = nodes }

-- the nodes of a list go above a node
abbrev pub placement_above : ℕ → List ℕ → Placement
placement_above mark nodes = record { above = true; mark = mark; nodes = nodes }

-- the nodes of an order are listed in the order of their ranks, and lie above the one that they are to go
-- below, or below the one that they are to go above
pub record FitsOrder (p : Placement) (old : Ranking) : Type 0 where
  pub order : IsOrder old
  pub below : p.above ≡ false → FitBelow p.mark p.nodes old.ranks
  pub above : p.above ≡ true → FitAbove p.mark p.nodes old.ranks

-- the nodes stand directly below the one that is named, or directly above it; they keep their order, and the
-- others theirs
pub record Rearranges (p : Placement) (old new : Ranking) : Type 0 where
  pub order : IsOrder new
  pub count : length new.nodes ≡ length old.nodes
  pub below : p.above ≡ false → RearrangesBelow p.mark p.nodes old.ranks new.ranks
  pub above : p.above ≡ true → RearrangesAbove p.mark p.nodes old.ranks new.ranks
