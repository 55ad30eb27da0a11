-- What one crate of a run changes: its identity is given its number and its input, in the table before it.
use Rattle.std.proofs.Common.{◌≡◌, ℕ, zero, suc, ◌+◌, ◌<◌, ◌≤◌, inl, inr, Bool, true, false, ◌||◌, not, List, [], ◌∷◌, ◌++◌, Option}
use Rattle.std.proofs.Math.Bool.{or-false}
use Rattle.std.proofs.Common.{Some, None, length, get_or, take, if◌then◌else◌, refl, sym, ap, ◌∙◌, subst, arith}
use Rattle.std.specs.Prelude.{nat_eq, slice_get, slice_index_or}
use Rattle.std.specs.List.{list_any}
use Rattle.std.specs.Option.{option_and_then, option_map, unwrap_or}
use Rattle.std.proofs.lemmas.Bool.{cases_lt}
use Rattle.std.proofs.lemmas.Bool.Decides.{nat_tests}
use Rattle.std.proofs.lemmas.List.{get_or-set_same, get_or_default, length-replicate, length-set, take_all}
use Rattle.std.proofs.lemmas.List.Folds.{list_any-append, list_any_more}
use Rattle.std.proofs.lemmas.Option.{slice_get-get_or, slice_get_within}
use Rattle.graph_base.specs.Finish.{IsBehindTargets}
use Rattle.crate_graph.specs.Graph.{edges}
use Rattle.crate_graph_values.specs.declared.builder.CrateBuilder.{CrateBuilder}
use Rattle.crate_graph.proofs.GraphLemmas.{length-edges, slice_get_some}
use Rattle.input_db.specs.Database.{Database}
use Rattle.input_db.specs.Identity.{Table, crate_for, with_entry}
use Rattle.input_db.specs.Identity.{identity_of, input_of, number_in}
use Rattle.input_db.specs.SetInDb.{with_member}
use Rattle.input_db.specs.FinishSteps.{Progress, is_first_of_root, progress_after}
use Rattle.input_db.specs.SetInDb.{finished_crate, finished_number, identity_at, is_first_at, is_of_root}
use Rattle.input_db.proofs.Run.{IsRun, IsStable, before, final_numbers}

-- what each step keeps holds in the end
pub climbs : (P : ℕ → Type 0) (from top : ℕ) → from ≤ top → P from
    → ((m : ℕ) → from ≤ m → m < top → P m → P (suc m)) → P top
climbs P from zero low start step = let same : from ≡ 0 = omega arith in subst P same start
climbs P from (suc top) low start step = elim (cases_lt from (suc top)) [
  | inl below ↦
      step top (omega arith) (omega arith)
      (climbs P from top (omega arith) start (λ m past within. step m past (omega arith)))
  | inr past ↦ let same : from ≡ suc top = omega arith in subst P same start
]

-- the next number, as the library's lemmas write it
pub next : (k : ℕ) → suc k ≡ k + 1
next k = omega arith

-- what is among the numbers once one is a member
any-with_member : (file n : ℕ) (ns : List ℕ)
    → list_any (nat_eq file) (with_member ns n) ≡ (list_any (nat_eq file) ns || nat_eq file n)
any-with_member file n ns = by (list_any (nat_eq n) ns) refl
  where
    there : list_any (nat_eq n) ns ≡ true → (b : Bool) → nat_eq file n ≡ b
        → list_any (nat_eq file) ns ≡ (list_any (nat_eq file) ns || b)
    there is true test =
        let same : n ≡ file = grind (arith, nat_tests) in
        let has : list_any (nat_eq file) ns ≡ true = subst (λ z. list_any (nat_eq z) ns ≡ true) same is in
        has ∙ sym (ap (λ b. b || true) has)
    there is false test = sym (or-false (list_any (nat_eq file) ns))

    by : (b : Bool) → list_any (nat_eq n) ns ≡ b
        → list_any (nat_eq file) (if b then ns else ns ++ n ∷ []) ≡ (list_any (nat_eq file) ns || nat_eq file n)
    by true is = there is (nat_eq file n) refl
    by false is =
        list_any-append (nat_eq file) ns (n ∷ []) ∙ ap (λ b. list_any (nat_eq file) ns || b) (or-false (nat_eq file n))

-- the table before a place of the order
abbrev pub table_before : List CrateBuilder → Database → List ℕ → ℕ → Table
table_before crates old order k = (before crates old order k).db.crates

-- in the end all are finished
pub at_end : (crates : List CrateBuilder) (old : Database) (order : List ℕ)
    → before crates old order (length order) ≡ progress_after crates old order
at_end crates old order = ap (progress_after crates old) (take_all (length order) order (omega arith))

-- a crate stands within the order
pub place_within : (crates : List CrateBuilder) (order : List ℕ) (k : ℕ) (krate : CrateBuilder)
    → finished_crate crates order k ≡ Some krate → k < length order
place_within crates order k krate at = by (slice_get order k) refl at
  where
    by : (o : Option ℕ) → slice_get order k ≡ o → option_and_then (slice_get crates) o ≡ Some krate → k < length order
    by None is at = cc
    by (Some n) is at = slice_get_within order k n is

-- it is the one of its number
pub crate_there : (crates : List CrateBuilder) (order : List ℕ) (k : ℕ) (krate : CrateBuilder)
    → finished_crate crates order k ≡ Some krate → slice_get crates (slice_index_or order k 0) ≡ Some krate
crate_there crates order k krate at =
    sym (ap (option_and_then (slice_get crates)) (slice_get-get_or order k 0 (place_within crates order k krate at))) ∙ at

module _ (crates : List CrateBuilder) (order : List ℕ) (behind : IsBehindTargets (edges crates) order) where
  -- the order has numbers of crates alone
  pub number_within : (k : ℕ) → k < length order → slice_index_or order k 0 < length crates
  number_within k within =
      let n = slice_index_or order k 0 in
      let is_in : n < length (edges crates) = (behind.all n).0 (k, within, get_or_default order k n 0 within) in
      omega (arith, is_in, length-edges crates)

  -- there is a crate at each place
  pub crate_some : (k : ℕ) → k < length order → (krate : CrateBuilder) × (finished_crate crates order k ≡ Some krate)
  crate_some k within =
      let there = slice_get_some crates (slice_index_or order k 0) (number_within k within) in
      (there.0, ap (option_and_then (slice_get crates)) (slice_get-get_or order k 0 within) ∙ there.1)

  module _ (old : Database) (run : IsRun crates old order) where
    -- the root files of the crates before a place are those of the progress
    pub roots_are : (file k : ℕ) → k ≤ length order
        → list_any (nat_eq file) (before crates old order k).finished.roots ≡ list_any (is_of_root crates file) (take k order)
    roots_are file zero within = refl
    roots_are file (suc k) within =
        let here : k < length order = omega arith in
        let c = crate_some k here in
        let root = c.0.basic.root_file_id in
        let roots = (before crates old order k).finished.roots in
        let test : nat_eq file root ≡ is_of_root crates file (get_or order k 0) =
        sym (ap (λ o. unwrap_or (option_map (λ (krate : CrateBuilder). nat_eq file krate.basic.root_file_id) o) false)
        (crate_there crates order k c.0 c.1)) in
        ap (λ (l : Progress). list_any (nat_eq file) l.finished.roots) (run k c.0 c.1)
        ∙ any-with_member file root roots
        ∙ ap (λ b. b || nat_eq file root) (roots_are file k (omega arith))
        ∙ ap (λ b. list_any (is_of_root crates file) (take k order) || b) test
        ∙ sym (list_any_more (is_of_root crates file) order k 0 here)
        ∙ sym (ap (λ n. list_any (is_of_root crates file) (take n order)) (next k))

    -- a crate's root file is new where no crate before it is of that
    pub first_is : (k : ℕ) (krate : CrateBuilder) → finished_crate crates order k ≡ Some krate
        → is_first_of_root (before crates old order k).finished.roots krate.basic.root_file_id ≡ is_first_at crates order k krate
    first_is k krate at =
        let within = place_within crates order k krate at in
        ap not (roots_are krate.basic.root_file_id k (omega arith))

    -- the table after a crate
    pub table_put : (k : ℕ) (krate : CrateBuilder) → finished_crate crates order k ≡ Some krate
        → table_before crates old order (suc k)
        ≡ with_entry (table_before crates old order k) (identity_at crates order (final_numbers crates old order) k krate)
        (input_of (number_in (final_numbers crates old order)) krate)
    table_put k krate at =
        ap (λ (l : Progress). l.db.crates) (run k krate at)
        ∙ ap (λ b. with_entry (table_before crates old order k) (identity_of b (number_in (final_numbers crates old order)) krate)
        (input_of (number_in (final_numbers crates old order)) krate)) (first_is k krate at)

    -- each crate of the graph has a number all along
    pub news_long : (k : ℕ) → k ≤ length order → length (before crates old order k).finished.numbers ≡ length crates
    news_long zero within = length-replicate (length crates) 0
    news_long (suc k) within =
        let c = crate_some k (omega arith) in
        let u = identity_of (is_first_of_root (before crates old order k).finished.roots c.0.basic.root_file_id)
        (number_in (final_numbers crates old order)) c.0 in
        ap (λ (l : Progress). length l.finished.numbers) (run k c.0 c.1)
        ∙ length-set (before crates old order k).finished.numbers (slice_index_or order k 0)
        (crate_for (table_before crates old order k) u)
        ∙ news_long k (omega arith)

    -- the number of a crate in the end is that of its identity when it is finished
    pub given_is : IsStable crates old order → (k : ℕ) (krate : CrateBuilder) → finished_crate crates order k ≡ Some krate
        → finished_number (final_numbers crates old order) order k
        ≡ crate_for (table_before crates old order k) (identity_at crates order (final_numbers crates old order) k krate)
    given_is stable k krate at =
        let within = place_within crates order k krate at in
        let n = slice_index_or order k 0 in
        let u = identity_of (is_first_of_root (before crates old order k).finished.roots krate.basic.root_file_id)
        (number_in (final_numbers crates old order)) krate in
        let long = news_long k (omega arith) in
        let inside : n < length (before crates old order k).finished.numbers = omega (arith, number_within k within, long) in
        sym (stable k (suc k) (omega arith) (omega arith) within)
        ∙ ap (λ (l : Progress). slice_index_or l.finished.numbers n 0) (run k krate at)
        ∙ get_or-set_same (before crates old order k).finished.numbers n (crate_for (table_before crates old order k) u) 0 inside
        ∙ ap (λ b. crate_for (table_before crates old order k) (identity_of b (number_in (final_numbers crates old order)) krate))
        (first_is k krate at)
