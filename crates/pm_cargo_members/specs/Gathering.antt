-- What private functions keep of a graph whose edges are followed both ways; no public clause names it.
use Rattle.std.specs.Prelude.{◌↔◌, ℕ, List}
use Rattle.graph_base.specs.Reach.{Reaches}
use Rattle.graph_base.specs.Reversed.{IsGraph, IsReversed}

-- rows are a graph, and others lead its edges back
pub record IsGraphBothWays (rows back : List (List ℕ)) : Type 0 where
  pub graph : IsGraph rows
  pub leads_back : IsReversed back rows
  pub reaches_back : (a b : ℕ) → Reaches back b a ↔ Reaches rows a b
