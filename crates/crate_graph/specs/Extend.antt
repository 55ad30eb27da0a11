-- A graph that takes another's crates in: each becomes the first equal one of the graph's old crates, or is
-- appended.
use Rattle.std.specs.Prelude.{◌≡◌, ℕ, ◌-◌, ◌<◌, ◌≤◌, Bool, true, List, [], ◌∷◌, ◌++◌, map, fold, length, replicate, Option, Some, None, position, slice_get, slice_index_or, slice_set, take, unwrap_or, if◌then◌else◌, ◌==◌}
use Rattle.std.specs.BTreeMap as tree
use Rattle.std.specs.Option.{option_map, option_or}
use Rattle.std.specs.Ordering.{nat_cmp}
use Rattle.std.specs.declared.cmp.Ordering.{Ordering}
use Rattle.base_text_paths.specs.Arena.{number_of}
use Rattle.base_values.specs.Sorted.{sorted}
use Rattle.base_text_paths.specs.declared.arena.Idx.{Idx}
use Rattle.graph_base.specs.Finish.{IsFinishOrder}
use Rattle.crate_graph.specs.Order.{with_next_nodes}
use Rattle.crate_graph.specs.Graph.{Graph, edges, target_of}
use Rattle.crate_graph_values.specs.Laws.{renamed_dependency}
use Rattle.crate_graph_values.specs.declared.builder.CrateBuilder.{CrateBuilder}
use Rattle.crate_graph_values.specs.declared.crate_data.CrateTag.{CrateTag}
use Rattle.crate_graph_values.specs.declared.crate_data.Dependency.{Dependency}

-- the number of a crate
abbrev pub Id : Type 0
Id = Idx CrateTag

-- dependencies in the order of their crates' numbers alone
abbrev pub by_number : Dependency Id → Dependency Id → Ordering
by_number x y = nat_cmp (target_of x) (target_of y)

-- the crate with such dependencies, sorted by number: those of one number keep their order
unfoldable pub with_dependencies : List (Dependency Id) → CrateBuilder → CrateBuilder
with_dependencies deps krate =
    record krate { basic = record krate.basic { dependencies = sorted by_number deps } }

-- the crate with its own dependencies, sorted
abbrev pub with_sorted_dependencies : CrateBuilder → CrateBuilder
with_sorted_dependencies krate = with_dependencies krate.basic.dependencies krate

-- the crate with new numbers for those that it depends on, sorted by them
abbrev pub with_new_ids : (Id → Id) → CrateBuilder → CrateBuilder
with_new_ids new krate = with_dependencies (map (renamed_dependency new) krate.basic.dependencies) krate

-- a graph that takes another's crates in
pub record Merge : Type 0 where
  pub crates : List CrateBuilder
  -- of each crate of the other graph, its number here; 0 as long as it is not taken in
  pub new_numbers : List ℕ

-- the number here of a crate of the other graph
abbrev pub new_id_at : List ℕ → Id → Id
new_id_at new_numbers id = record id { raw = slice_index_or new_numbers (number_of id) 0 }

-- a crate of the other graph becomes the one at a place, or is appended
abbrev pub with_crate_at : Merge → ℕ → CrateBuilder → Option ℕ → Merge
with_crate_at j n krate (Some place) = record {
  crates = j.crates;
  new_numbers = slice_set j.new_numbers n place;
}
with_crate_at j n krate None = record {
  crates = j.crates ++ krate ∷ [];
  new_numbers = slice_set j.new_numbers n (length j.crates);
}

-- a crate of the other graph, under the numbers that its dependencies have here, becomes the first that is
-- equal to it among the first `olds` crates, or is appended
abbrev pub with_first_equal : (CrateBuilder → CrateBuilder → Bool) → ℕ → Merge → ℕ → CrateBuilder → Merge
with_first_equal eq olds j n krate =
    with_crate_at j n krate (position (λ old. eq old krate) (take olds j.crates))

-- the crate of a number of the other graph is taken in
unfoldable pub take_in : (CrateBuilder → CrateBuilder → Bool) → ℕ → List CrateBuilder → Merge → ℕ → Merge
take_in eq olds others j n =
    unwrap_or
    (option_map (λ krate. with_first_equal eq olds j n (with_new_ids (new_id_at j.new_numbers) krate)) (slice_get others n))
    j

-- the old crates, their dependencies sorted, before any other crate is taken in
abbrev pub before_merge : List CrateBuilder → List CrateBuilder → Merge
before_merge olds others = record {
  crates = map with_sorted_dependencies olds;
  new_numbers = replicate (length others) 0;
}

-- the crates of the other graph are taken in, in the order of their numbers in a list
abbrev pub merge_of : (CrateBuilder → CrateBuilder → Bool) → List CrateBuilder → List CrateBuilder → List ℕ
    → Merge
merge_of eq olds others order = fold (take_in eq (length olds) others) (before_merge olds others) order

-- the number that the answer gives for a crate of the other graph
abbrev pub new_id : (Id → Id → Ordering) → tree.BTreeMap Id Id → Id → Id
new_id cmp ids id = unwrap_or (tree.get cmp ids id) id

-- the graph took the other's crates in, in the order in which they are finished, and had room for them, under
-- the same limit; those that were appended have the highest ranks, in that order; `new_of` gives their new
-- numbers
pub record Merges (eq : CrateBuilder → CrateBuilder → Bool) (old other new : Graph) (new_of : Id → Id)
    : Type 0 where
  pub order : List ℕ
  pub finish_order : IsFinishOrder (edges other.crates) order
  pub limit : new.limit ≡ old.limit
  pub crates : new.crates ≡ (merge_of eq old.crates other.crates order).crates
  pub room : length (merge_of eq old.crates other.crates order).crates ≤ old.limit
  pub ranks : new.order ≡ with_next_nodes (length new.crates - length old.crates) old.order
  pub numbers : (id : Id) → number_of id < length other.crates
      → new_of id ≡ new_id_at (merge_of eq old.crates other.crates order).new_numbers id

-- some crate would have been one more than the limit
pub record PassesLimit (eq : CrateBuilder → CrateBuilder → Bool) (old other : Graph) : Type 0 where
  pub order : List ℕ
  pub finish_order : IsFinishOrder (edges other.crates) order
  pub past : old.limit < length (merge_of eq old.crates other.crates order).crates

-- each old crate keeps its number and, except for the order of its dependencies, its value
abbrev pub KeepsCrates : List CrateBuilder → List CrateBuilder → Type 0
KeepsCrates old new =
    (n : ℕ) (krate : CrateBuilder) → slice_get old n ≡ Some krate
    → slice_get new n ≡ Some (with_sorted_dependencies krate)

-- each crate of the other graph has a number here under which an equal one stands, as to its dependencies'
-- new numbers
abbrev pub HasEquals : (CrateBuilder → CrateBuilder → Bool) → (Id → Id) → List CrateBuilder
    → List CrateBuilder → Type 0
HasEquals eq new_of other new = (id : Id) (krate : CrateBuilder) → slice_get other (number_of id) ≡ Some krate
    → (there : CrateBuilder) × (slice_get new (number_of (new_of id)) ≡ Some there)
    × (eq there (with_new_ids new_of krate) ≡ true)

-- two crates of the other graph that become one became an old one
abbrev pub AreApart : (Id → Id) → List CrateBuilder → List CrateBuilder → Type 0
AreApart new_of old other =
    (x y : Id) → number_of x < length other → number_of y < length other → (number_of x ≡ number_of y → ⊥)
    → number_of (new_of x) ≡ number_of (new_of y) → number_of (new_of x) < length old

-- the new graph holds the old crates and those of the other graph: each old one under its number, and each
-- other one under its new number, where only an old crate can stand for two
pub record HoldsBoth (eq : CrateBuilder → CrateBuilder → Bool) (old other new : List CrateBuilder)
    (new_of : Id → Id) : Type 0 where
  pub kept : KeepsCrates old new
  pub equal : HasEquals eq new_of other new
  pub apart : AreApart new_of old other

-- what stands under an id when each entry goes to the new number of its key: the last entry that goes there
abbrev pub moved_entry : {V : Type 0} → (Id → Id) → List (Id × V) → Id → Option V
moved_entry new_of [] id = None
moved_entry new_of (e ∷ es) id =
    option_or (moved_entry new_of es id) (if number_of (new_of e.0) == number_of id then Some e.1 else None)
