-- The crates of a graph that are finished one by one, by the numbers that they have in the end.
use Rattle.std.specs.Prelude.{◌≡◌, ℕ, suc, ◌<◌, List, Some, length, slice_index_or, take}
use Rattle.crate_graph_values.specs.declared.builder.CrateBuilder.{CrateBuilder}
use Rattle.input_db.specs.Database.{Database}
use Rattle.input_db.specs.Identity.{identity_of, input_of, number_in}
use Rattle.input_db.specs.FinishSteps.{Progress, is_first_of_root, progress_after, with_put_crate}
use Rattle.input_db.specs.SetInDb.{finished_crate}

-- how far the crates are taken in before the one at a place of the order is finished
abbrev pub before : List CrateBuilder → Database → List ℕ → ℕ → Progress
before crates old order k = progress_after crates old (take k order)

-- the numbers in the database that the crates have in the end
abbrev pub final_numbers : List CrateBuilder → Database → List ℕ → List ℕ
final_numbers crates old order = (progress_after crates old order).finished.numbers

-- each crate is finished with the identity and the input that it has by the numbers of the end, since those that it
-- depends on have these numbers already
abbrev pub IsRun : List CrateBuilder → Database → List ℕ → Type 0
IsRun crates old order = (k : ℕ) (krate : CrateBuilder) → finished_crate crates order k ≡ Some krate
    → before crates old order (suc k)
    ≡ with_put_crate (before crates old order k) (slice_index_or order k 0) krate
    (identity_of (is_first_of_root (before crates old order k).finished.roots krate.basic.root_file_id)
    (number_in (final_numbers crates old order)) krate)
    (input_of (number_in (final_numbers crates old order)) krate)

-- the number that a crate is given stays
abbrev pub IsStable : List CrateBuilder → Database → List ℕ → Type 0
IsStable crates old order = (k later : ℕ) → k < later → later < suc (length order) → k < length order
    → slice_index_or (before crates old order later).finished.numbers (slice_index_or order k 0) 0
    ≡ slice_index_or (final_numbers crates old order) (slice_index_or order k 0) 0
