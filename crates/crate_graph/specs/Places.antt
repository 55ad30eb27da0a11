-- Where hashes stand in a list: the first place of each, and from each place the next of the same hash. Equal
-- crates have one hash.
use Rattle.std.specs.Prelude.{◌≡◌, ◌≢◌, ℕ, ◌+◌, ◌<◌, ◌≤◌, List, Option, Some, None, length, slice_index, slice_index_or, fold, map, take}
use Rattle.std.specs.Hash.{HashWrites}
use Rattle.std.specs.Hash.DefaultHasher as sip
use Rattle.crate_graph.specs.Extend.{Id}
use Rattle.crate_graph_values.specs.declared.builder.CrateBuilder.{CrateBuilder}
use Rattle.crate_graph_values.specs.declared.crate_data.CrateData.{CrateData}

-- the first place of a hash from one place on, or none
abbrev pub IsFirst : List ℕ → ℕ → ℕ → Option ℕ → Type 0
IsFirst hashes hash from None = (k : ℕ) → from ≤ k → k < length hashes → slice_index hashes k ≢ hash
IsFirst hashes hash from (Some place) =
    (from ≤ place) × (place < length hashes) × (slice_index hashes place ≡ hash)
    × ((k : ℕ) → from ≤ k → k < place → slice_index hashes k ≢ hash)

-- from one place on, each hash is found at its first place, and each place leads to the next of its hash
pub record ArePlaces (hashes : List ℕ) (from : ℕ) (first : ℕ → Option ℕ) (next : List (Option ℕ))
    : Type 0 where
  pub long : length next ≡ length hashes
  pub first_is : (hash : ℕ) → IsFirst hashes hash from (first hash)
  pub next_is : (k : ℕ) → from ≤ k → k < length hashes
      → IsFirst hashes (slice_index hashes k) (k + 1) (slice_index_or next k None)

-- the hash of a value, by what its type feeds to a hasher
abbrev pub value_hash : {T : Type 0} → (T → HashWrites) → T → ℕ
value_hash input x = sip.finish (fold sip.write sip.initial (input x))

-- the hash of a crate, by what the data that identifies it feeds to a hasher
abbrev pub crate_hash : (CrateData Id → HashWrites) → CrateBuilder → ℕ
crate_hash input krate = value_hash input krate.basic

-- the hashes are those of the first crates
pub record ArePlacesOf (input : CrateData Id → HashWrites) (places : List ℕ) (crates : List CrateBuilder)
    : Type 0 where
  pub within : length places ≤ length crates
  pub hashes : places ≡ map (crate_hash input) (take (length places) crates)
