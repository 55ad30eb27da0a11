-- What the table of a run holds in the end: under a number the input of the last crate that has it, and all else as it was.
use Rattle.std.proofs.Common.{◌≡◌, ℕ, zero, suc, ◌<◌, ◌≤◌, inl, inr, List, Some, length, refl, sym, ap, ◌∙◌, subst, arith}
use Rattle.std.specs.Prelude.{slice_get}
use Rattle.std.proofs.lemmas.Bool.{cases_lt}
use Rattle.graph_base.specs.Finish.{IsBehindTargets}
use Rattle.crate_graph.specs.Graph.{edges}
use Rattle.crate_graph_values.specs.declared.builder.CrateBuilder.{CrateBuilder}
use Rattle.input_db.specs.Database.{Database}
use Rattle.input_db.specs.Identity.{Table, input_in, unique_eq, uniques_in, with_entry}
use Rattle.input_db.specs.Identity.{input_of, number_in}
use Rattle.input_db.specs.FinishSteps.{Progress, progress_after}
use Rattle.input_db.specs.SetInDb.{HoldLastInputs, KeepsOtherEntries, finished_number, identity_at}
use Rattle.input_db.proofs.PlaceLemmas.{key_kept, put_last, put_longer, value_kept, value_put}
use Rattle.input_db.proofs.Run.{IsRun, IsStable, final_numbers}
use Rattle.input_db.proofs.RunSteps.{at_end, climbs, crate_some, given_is, place_within, table_before, table_put}

-- a crate keeps the inputs of all numbers but its own
input_kept : (crates : List CrateBuilder) (old : Database) (order : List ℕ) → IsBehindTargets (edges crates) order
    → IsRun crates old order → IsStable crates old order → (n m : ℕ) → m < length order
    → (finished_number (final_numbers crates old order) order m ≡ n → ⊥)
    → input_in (table_before crates old order (suc m)) n ≡ input_in (table_before crates old order m) n
input_kept crates old order behind run stable n m below other =
    let numbers = final_numbers crates old order in
    let c = crate_some crates order behind m below in
    ap (λ (t : Table). input_in t n) (table_put crates order behind old run m c.0 c.1)
    ∙ value_kept unique_eq (identity_at crates order numbers m c.0) (input_of (number_in numbers) c.0) (table_before crates old order m) n
    (λ same. other (given_is crates order behind old run stable m c.0 c.1 ∙ sym same))

-- what is held under a number is of the last crate that has it
pub inputs : (crates : List CrateBuilder) (old : Database) (order : List ℕ) → IsBehindTargets (edges crates) order
    → IsRun crates old order → IsStable crates old order
    → HoldLastInputs crates order (final_numbers crates old order) (progress_after crates old order).db.crates
inputs crates old order behind run stable k krate at last =
    let numbers = final_numbers crates old order in
    let u = identity_at crates order numbers k krate in
    let v = input_of (number_in numbers) krate in
    let n = finished_number numbers order k in
    let within = place_within crates order k krate at in
    let start : input_in (table_before crates old order (suc k)) n ≡ Some v =
    ap (λ (t : Table). input_in t n) (table_put crates order behind old run k krate at)
    ∙ ap (input_in (with_entry (table_before crates old order k) u v)) (given_is crates order behind old run stable k krate at)
    ∙ value_put unique_eq u v (table_before crates old order k) in
    let kept : (m : ℕ) → suc k ≤ m → m < length order → input_in (table_before crates old order m) n ≡ Some v
    → input_in (table_before crates old order (suc m)) n ≡ Some v = λ m past below is.
    input_kept crates old order behind run stable n m below (last m (omega arith) below) ∙ is in
    subst (λ (l : Progress). input_in l.db.crates n ≡ Some v) (at_end crates old order)
    (climbs (λ m. input_in (table_before crates old order m) n ≡ Some v) (suc k) (length order) (omega arith) start kept)

module _ (crates : List CrateBuilder) (old : Database) (order : List ℕ) (behind : IsBehindTargets (edges crates) order)
    (run : IsRun crates old order) where
  -- no crate is lost
  longer_then : (k : ℕ) → k ≤ length order → length old.crates ≤ length (table_before crates old order k)
  longer_then zero within = omega arith
  longer_then (suc k) within =
      let numbers = final_numbers crates old order in
      let c = crate_some crates order behind k (omega arith) in
      let put = table_put crates order behind old run k c.0 c.1 in
      let more = put_longer unique_eq (identity_at crates order numbers k c.0) (input_of (number_in numbers) c.0)
      (table_before crates old order k) in
      omega (arith, ap length put, more, longer_then k (omega arith))

  -- no identity of before has another number
  identities_then : (n k : ℕ) → n < length old.crates → k ≤ length order
      → slice_get (uniques_in (table_before crates old order k)) n ≡ slice_get (uniques_in old.crates) n
  identities_then n zero low within = refl
  identities_then n (suc k) low within =
      let numbers = final_numbers crates old order in
      let c = crate_some crates order behind k (omega arith) in
      ap (λ (t : Table). slice_get (uniques_in t) n) (table_put crates order behind old run k c.0 c.1)
      ∙ key_kept unique_eq (identity_at crates order numbers k c.0) (input_of (number_in numbers) c.0)
      (table_before crates old order k) n (omega (arith, longer_then k (omega arith)))
      ∙ identities_then n k low (omega arith)

  module _ (stable : IsStable crates old order) where
    -- no input of before is another, but of the numbers that are given
    inputs_then : (n : ℕ) → ((k : ℕ) → k < length order → finished_number (final_numbers crates old order) order k ≡ n → ⊥)
        → (k : ℕ) → k ≤ length order → input_in (table_before crates old order k) n ≡ input_in old.crates n
    inputs_then n other zero within = refl
    inputs_then n other (suc k) within =
        input_kept crates old order behind run stable n k (omega arith) (other k (omega arith))
        ∙ inputs_then n other k (omega arith)

    -- what is new is given
    fresh_then : (n k : ℕ) → k ≤ length order → length old.crates ≤ n → n < length (table_before crates old order k)
        → (m : ℕ) × (m < length order) × (finished_number (final_numbers crates old order) order m ≡ n)
    fresh_then n zero within past below = absurd (omega arith)
    fresh_then n (suc k) within past below = elim (cases_lt n (length (table_before crates old order k))) [
      | inl before ↦ fresh_then n k (omega arith) past before
      | inr new ↦
          let numbers = final_numbers crates old order in
          let here : k < length order = omega arith in
          let c = crate_some crates order behind k here in
          let put = table_put crates order behind old run k c.0 c.1 in
          let last = put_last unique_eq (identity_at crates order numbers k c.0) (input_of (number_in numbers) c.0)
          (table_before crates old order k) n new (subst (λ (t : Table). n < length t) put below) in
          (k, here, given_is crates order behind old run stable k c.0 c.1 ∙ sym last)
    ]

-- the table keeps what it had, and what is new in it is given
pub kept : (crates : List CrateBuilder) (old : Database) (order : List ℕ) → IsBehindTargets (edges crates) order
    → IsRun crates old order → IsStable crates old order
    → KeepsOtherEntries order (final_numbers crates old order) old.crates (progress_after crates old order).db.crates
kept crates old order behind run stable =
    let top = length order in
    let whole : top ≤ length order = omega arith in
    subst (λ (l : Progress). KeepsOtherEntries order (final_numbers crates old order) old.crates l.db.crates) (at_end crates old order) (record {
      identities = λ n low. identities_then crates old order behind run n top low whole;
      inputs = λ n low other. inputs_then crates old order behind run stable n other top whole;
      longer = longer_then crates old order behind run top whole;
      fresh = λ n past below. fresh_then crates old order behind run stable n top whole past below;
    })
