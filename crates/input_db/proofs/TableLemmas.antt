-- The table of all crates: its edges lead to crates of the table, and it stays a table once an identity is given
-- an input.
use Rattle.std.proofs.Common.{◌≡◌, ℕ, zero, suc, ◌+◌, ◌<◌, ◌^◌, ◌⊎◌, inl, inr, Bool, true, false, cond, List, [], ◌∷◌}
use Rattle.std.proofs.Common.{Option, Some, None, length, get_or, slice_get, refl, sym, ap, ◌∙◌, subst, arith, true≢false, is_some}
use Rattle.std.specs.List.{All}
use Rattle.std.specs.Map.{keys_of, values_of}
use Rattle.std.specs.Option.{unwrap_or}
use Rattle.std.proofs.lemmas.List.{get_or-map, length-map}
use Rattle.std.proofs.lemmas.Option.{slice_get-map}
use Rattle.graph_base.specs.Edges.{IsInRange, row}
use Rattle.crate_graph_values.specs.declared.crate_data.Dependency.{Dependency}
use Rattle.input_db.specs.Identity.{IsTable, Table, crate_edges, input_in, named_in, names_of, unique_eq, with_entry}
use Rattle.input_db.specs.declared.crate_input.CrateInput.{CrateInput}
use Rattle.input_db.specs.declared.crate_input.UniqueCrateData.{UniqueCrateData}
use Rattle.input_db.proofs.PlaceLemmas.{put_longer}

not_there : {X : Type 0} {x : X} → None ≡ Some x → ⊥
not_there e = true≢false (sym (ap is_some e))

-- the edges of a crate that is there are those of its input
pub row_of : (table : Table) (krate : ℕ) (input : CrateInput) → input_in table krate ≡ Some input
    → row (crate_edges table) krate ≡ named_in input.crate_data
row_of [] krate input is = absurd (not_there is)
row_of (entry ∷ table) zero input is = ap (λ (i : Option CrateInput). named_in (unwrap_or i input).crate_data) is
row_of (entry ∷ table) (suc krate) input is = row_of table krate input is

-- an edge starts at a crate that is there
pub from_there : (table : Table) (krate k : ℕ) → k < length (row (crate_edges table) krate)
    → (input : CrateInput) × (input_in table krate ≡ Some input)
from_there [] krate k within = absurd (omega arith)
from_there (entry ∷ table) zero k within = (entry.1, refl)
from_there (entry ∷ table) (suc krate) k within = from_there table krate k within

-- each edge leads to a crate of the table
pub in_range : (table : Table) → IsTable table → IsInRange (crate_edges table)
in_range table is a b edge =
    let from = from_there table a edge.0 edge.1 in
    let same = row_of table a from.0 from.1 in
    let within : edge.0 < length (named_in from.0.crate_data) = subst (λ (ns : List ℕ). edge.0 < length ns) same edge.1 in
    let at : get_or (named_in from.0.crate_data) edge.0 b ≡ b =
    subst (λ (ns : List ℕ). get_or ns edge.0 b ≡ b) same edge.2 in
    let below : get_or (named_in from.0.crate_data) edge.0 b < length table = is.present a from.0 from.1 edge.0 b within in
    let long : length (crate_edges table) ≡ length table = length-map table _ in
    omega arith

-- what a look-up by place finds is held of the crate
pub held_at : (table : Table) (krate : ℕ) (input : CrateInput) → slice_get (values_of table) krate ≡ Some input
    → input_in table krate ≡ Some input
held_at table krate input is = sym (slice_get-map (λ (e : UniqueCrateData × CrateInput). e.1) table krate) ∙ is

-- the dependencies of a crate of the table are numbered within 32 bits
pub dependencies_fit : (table : Table) (krate : ℕ) (input : CrateInput) → IsTable table
    → input_in table krate ≡ Some input
    → All (λ dep. dep.crate_id < 2 ^ 32) input.crate_data.dependencies
dependencies_fit table krate input is there k d within =
    let named = get_or-map (λ (dep : Dependency ℕ). dep.crate_id) input.crate_data.dependencies k d 0 within in
    let long : length (named_in input.crate_data) ≡ length input.crate_data.dependencies =
    length-map input.crate_data.dependencies _ in
    let below : get_or (named_in input.crate_data) k 0 < length table =
    is.present krate input there k 0 (omega arith) in
    omega (arith, is.few)

-- an identity is where it was, or is the one that is given and comes last
identity_split : (table rest : Table) (unique : UniqueCrateData) (entry : UniqueCrateData × CrateInput) (input : CrateInput)
    (is_first : Bool) (krate : ℕ) (x : UniqueCrateData)
    → ((k : ℕ) → slice_get (keys_of rest) k ≡ Some x
    → (slice_get (keys_of table) k ≡ Some x) ⊎ ((k ≡ length table) × (x ≡ unique)))
    → slice_get (keys_of (cond is_first ((entry.0, input) ∷ table) (entry ∷ rest))) krate ≡ Some x
    → (slice_get (keys_of (entry ∷ table)) krate ≡ Some x) ⊎ ((krate ≡ suc (length table)) × (x ≡ unique))
identity_split table rest unique entry input true zero x more is = inl is
identity_split table rest unique entry input true (suc krate) x more is = inl is
identity_split table rest unique entry input false zero x more is = inl is
identity_split table rest unique entry input false (suc krate) x more is = elim (more krate is) [
  | inl old ↦ inl old
  | inr new ↦ inr (ap suc new.0, new.1)
]

-- the same for the whole table
identity_after : (table : Table) (unique : UniqueCrateData) (input : CrateInput) (krate : ℕ) (x : UniqueCrateData)
    → slice_get (keys_of (with_entry table unique input)) krate ≡ Some x
    → (slice_get (keys_of table) krate ≡ Some x) ⊎ ((krate ≡ length table) × (x ≡ unique))
identity_after [] unique input zero x is = inr (refl, sym (ap (λ (u : Option UniqueCrateData). unwrap_or u x) is))
identity_after [] unique input (suc krate) x is = absurd (not_there is)
identity_after (entry ∷ table) unique input krate x is =
    identity_split table (with_entry table unique input) unique entry input (unique_eq unique entry.0) krate x
    (λ k at. identity_after table unique input k x at) is

-- an input is where it was, or is the one that is given
input_split : (table rest : Table) (entry : UniqueCrateData × CrateInput) (input : CrateInput) (is_first : Bool)
    (krate : ℕ) (x : CrateInput)
    → ((k : ℕ) → input_in rest k ≡ Some x → (input_in table k ≡ Some x) ⊎ (x ≡ input))
    → input_in (cond is_first ((entry.0, input) ∷ table) (entry ∷ rest)) krate ≡ Some x
    → (input_in (entry ∷ table) krate ≡ Some x) ⊎ (x ≡ input)
input_split table rest entry input true zero x more is = inr (sym (ap (λ (i : Option CrateInput). unwrap_or i x) is))
input_split table rest entry input true (suc krate) x more is = inl is
input_split table rest entry input false zero x more is = inl is
input_split table rest entry input false (suc krate) x more is = more krate is

-- the same for the whole table
input_after : (table : Table) (unique : UniqueCrateData) (input : CrateInput) (krate : ℕ) (x : CrateInput)
    → input_in (with_entry table unique input) krate ≡ Some x
    → (input_in table krate ≡ Some x) ⊎ (x ≡ input)
input_after [] unique input zero x is = inr (sym (ap (λ (i : Option CrateInput). unwrap_or i x) is))
input_after [] unique input (suc krate) x is = absurd (not_there is)
input_after (entry ∷ table) unique input krate x is =
    input_split table (with_entry table unique input) entry input (unique_eq unique entry.0) krate x
    (λ k at. input_after table unique input k x at) is

-- the numbers suffice where the identity has a crate, or one number more is left
pub few_after : (before after : ℕ) (there : Bool) → after ≡ before + cond there 0 1 → before < 2 ^ 32
    → (there ≡ true) ⊎ (before < 0xffff_ffff) → after < 2 ^ 32
few_after before after true long few room = omega arith
few_after before after false long few (inl there) = absurd (true≢false (sym there))
few_after before after false long few (inr room) = omega arith

-- a table stays one once an identity is given an input that both name its crates alone
pub table_after : (table : Table) (unique : UniqueCrateData) (input : CrateInput) → IsTable table
    → All (λ named. named < length table) (names_of unique)
    → All (λ named. named < length table) (named_in input.crate_data)
    → length (with_entry table unique input) < 2 ^ 32
    → IsTable (with_entry table unique input)
table_after table unique input is named_by_it named_in_it fits = record {
  few = fits;
  older = λ krate x at. elim (identity_after table unique input krate x at) [
    | inl old ↦ is.older krate x old
    | inr new ↦ λ k d within.
        let there : k < length (names_of unique) = subst (λ (u : UniqueCrateData). k < length (names_of u)) new.1 within in
        let below : get_or (names_of unique) k d < length table = named_by_it k d there in
        let same = ap (λ (u : UniqueCrateData). get_or (names_of u) k d) new.1 in
        omega arith
  ];
  present = λ krate x at. elim (input_after table unique input krate x at) [
    | inl old ↦ λ k d within.
        let below : get_or (named_in x.crate_data) k d < length table = is.present krate x old k d within in
        omega (arith, put_longer unique_eq unique input table)
    | inr new ↦ λ k d within.
        let there : k < length (named_in input.crate_data) =
        subst (λ (i : CrateInput). k < length (named_in i.crate_data)) new within in
        let below : get_or (named_in input.crate_data) k d < length table = named_in_it k d there in
        let same = ap (λ (i : CrateInput). get_or (named_in i.crate_data) k d) new in
        omega (arith, put_longer unique_eq unique input table)
  ];
}
