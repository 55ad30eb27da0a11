-- The graph that shows a lowering: its crates are those of some rows, in an order of their own, and what they
-- depend on goes by the places in that order. Where a graph took crates in from another, their dependencies
-- are sorted by these places.
use Rattle.std.specs.Prelude.{◌≡◌, ℕ, Bool, false, List, length, map, slice_get, Some, ◌==◌, if◌then◌else◌}
use Rattle.std.specs.List.{position_or_len, range_with_len}
use Rattle.std.specs.Option.{option_map}
use Rattle.std.specs.Ordering.{nat_cmp}
use Rattle.std.specs.declared.cmp.Ordering.{Ordering}
use Rattle.base_values.specs.Sorted.{sorted}
use Rattle.crate_graph.specs.Graph.{Graph}
use Rattle.pm_lower_crates.specs.Lowering.{Crate, crate_seen}
use Rattle.pm_lower_crates.specs.WantedEdges.{Dep}

-- the place of a row in an order of rows, the end where it has none
abbrev pub place_in : List ℕ → ℕ → ℕ
place_in order row = position_or_len (λ n. n == row) order

-- a dependency on the place that its row has in an order
abbrev pub dep_under : List ℕ → Dep → Dep
dep_under order dep = record dep { target = place_in order dep.target }

-- dependencies by their places alone
abbrev pub by_target : Dep → Dep → Ordering
by_target x y = nat_cmp x.target y.target

-- dependencies as they are, or sorted by their places: those of one place keep their order
abbrev pub maybe_sorted : Bool → List Dep → List Dep
maybe_sorted sorts deps = if sorts then sorted by_target deps else deps

-- the crate of a row, whose dependencies go by the places that their rows have in an order; those of some
-- rows are sorted
abbrev pub crate_under : List ℕ → (ℕ → Bool) → ℕ → Crate → Crate
crate_under order sorts row c = record c { deps = maybe_sorted (sorts row) (map (dep_under order) c.deps) }

-- the graph has the crates of the rows of an order, in that order, and the limit; the dependencies of some
-- rows are sorted
pub record ShowsRows (limit : ℕ) (order : List ℕ) (sorts : ℕ → Bool) (crates : List Crate) (graph : Graph)
    : Type 0 where
  pub crates_are :
      map (λ krate. Some (crate_seen krate)) graph.crates
      ≡ map (λ row. option_map (crate_under order sorts row) (slice_get crates row)) order
  pub limit_is : graph.limit ≡ limit

-- all rows in their own order
abbrev pub own_order : List Crate → List ℕ
own_order crates = range_with_len 0 (length crates)

-- the dependencies of no row are sorted
abbrev pub none_sorted : ℕ → Bool
none_sorted row = false
