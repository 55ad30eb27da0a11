-- Lists of crates that begin with a given one, and the crates that reach another.
use Rattle.std.specs.Prelude.{◌≡◌, ◌↔◌, ℕ, ◌<◌, Bool, true, false, List, filter, length, nat_eq, not, slice_index_or}
use Rattle.std.specs.List.{Contains}
use Rattle.graph_base.specs.Reach.{Reaches}
use Rattle.input_db.specs.Database.{Database}
use Rattle.input_db.specs.Identity.{crate_edges}

-- the numbers of a list except one
abbrev pub others : ℕ → List ℕ → List ℕ
others krate ns = filter (λ n. not (nat_eq n krate)) ns

-- a list that begins with a crate and has each of its own once
pub record IsWithItselfFirst (krate : ℕ) (crates : List ℕ) : Type 0 where
  pub some : 0 < length crates
  pub first : slice_index_or crates 0 0 ≡ krate
  pub once : (i j : ℕ) → i < j → j < length crates → slice_index_or crates i 0 ≡ slice_index_or crates j 0 → ⊥

-- a crate is one of those that there are now, and reaches another over dependencies
abbrev pub IsListedDependent : Database → ℕ → ℕ → Type 0
IsListedDependent db krate other = Contains db.listed krate × Reaches (crate_edges db.crates) krate other

-- whether the mark at a place is set
abbrev pub is_marked : List Bool → ℕ → Bool
is_marked marks place = slice_index_or marks place false

-- the marks at the places of the crates of a list are set, and no others
abbrev pub AreMarksOf : List Bool → List ℕ → Type 0
AreMarksOf marks listed = (krate : ℕ) → (is_marked marks krate ≡ true) ↔ Contains listed krate
