-- Lists of members that are found one after another: those that depend on each other share one.
use Rattle.std.specs.Prelude.{◌≡◌, ◌⊎◌, ℕ, ◌<◌, List, length, slice_get, Option, Some}
use Rattle.std.specs.List.{Contains}
use Rattle.base_text_paths.specs.declared.arena.Idx.{Idx}
use Rattle.pm_cargo_members.specs.Closure.{closure}
use Rattle.pm_cargo_members.specs.Members.{package_ids}
use Rattle.pm_cargo_members.specs.declared.members.ClosureList.{ClosureList}
use Rattle.pm_cargo_packages.specs.declared.package.PackageTag.{PackageTag}

-- for each node its list, or none while it is not found
abbrev pub Lists : Type 0
Lists = List (Option (List (Idx PackageTag)))

-- each list that is there is the closure of its node, and none is missing below a place
pub record AreClosures (graph : List (List ℕ)) (place : ℕ) (lists : Lists) : Type 0 where
  pub long : length lists ≡ length graph
  pub there : (k : ℕ) → k < place → slice_get lists k ≡ Some (Some (package_ids (closure graph k)))
  pub right : (k : ℕ) (list : List (Idx PackageTag)) → slice_get lists k ≡ Some (Some list)
      → list ≡ package_ids (closure graph k)

-- the closure of a node, as places and as ids
abbrev pub closure_list : List (List ℕ) → ℕ → ClosureList
closure_list graph node = record { places = closure graph node; ids = package_ids (closure graph node) }

-- each entry is as it was, or is the closure's list, if its node is among some nodes and in the closure
pub record SharesList (nodes : List ℕ) (closure : ClosureList) (old new : Lists) : Type 0 where
  pub long : length new ≡ length old
  pub each : (k : ℕ) → (slice_get new k ≡ slice_get old k)
      ⊎ (Contains nodes k × Contains closure.places k × (slice_get new k ≡ Some (Some closure.ids)))
