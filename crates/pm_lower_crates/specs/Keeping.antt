-- What keeping edges makes of the crates of a graph: each has as its dependencies the edges that are kept of
-- those wanted of it, by `KeptEdges`. The graph may have edges before, as those of a front: other crates,
-- which no edge leaves.
use Rattle.std.specs.Prelude.{◌≡◌, ℕ, ◌<◌, ◌≤◌, List, [], ◌++◌, length, map}
use Rattle.std.specs.List.{All}
use Rattle.crate_graph_values.specs.declared.builder.CrateBuilder.{CrateBuilder}
use Rattle.pm_lower_crates.specs.KeptEdges.{Keeps}
use Rattle.pm_lower_crates.specs.Lowering.{Crate, crate_seen, with_deps}
use Rattle.pm_lower_crates.specs.WantedEdges.{Edge}

-- the crates of a graph are these, in order, and their dependencies are those that some edges give them
abbrev pub HaveEdges : List Edge → List CrateBuilder → List Crate → Type 0
HaveEdges edges crates bare = map crate_seen crates ≡ with_deps edges 0 bare

-- the crates of a graph are these, in order, and their dependencies the edges of before and behind them those
-- that are kept of the wanted ones
pub record AreLowered (before : List Edge) (bare : List Crate) (want : List Edge) (crates : List CrateBuilder)
    : Type 0 where
  pub kept : List Edge
  pub are_kept : Keeps (length bare) before want kept
  pub crates_are : map crate_seen crates ≡ with_deps kept 0 bare

-- a graph of a front, whose crates depend on those of the front alone, and of rows behind it, which depend on
-- nothing yet
pub record IsFrontWith (front rows : List Crate) (crates : List CrateBuilder) : Type 0 where
  pub crates_are : map crate_seen crates ≡ front ++ rows
  pub closed : All (λ c. All (λ d. d.target < length front) c.deps) front
  pub bare : All (λ c. c.deps ≡ []) rows

-- the edges have their sources behind a front of this size
abbrev pub StartBehind : ℕ → List Edge → Type 0
StartBehind size edges = All (λ e. size ≤ e.source) edges
