-- The numbers that crates are given are numbers of the table, and no other part of the database changes.
use Rattle.std.proofs.Common.{◌≡◌, nat_eq, ℕ, zero, suc, ◌+◌, ◌<◌, ◌≤◌, ◌⊎◌, inl, inr, true, false, List, [], ◌∷◌, ◌++◌, map}
use Rattle.std.proofs.Common.{take, cond, length, get_or, fold, Some, None, refl, sym, ap, ◌∙◌, subst, arith}
use Rattle.std.proofs.Common.{get_or-set_same}
use Rattle.std.specs.Prelude.{slice_get}
use Rattle.std.specs.List.{All, Contains, list_any}
use Rattle.std.specs.Option.{option_map_or}
use Rattle.std.proofs.lemmas.Bool.{cases_eq}
use Rattle.std.proofs.lemmas.List.{get_or_default, get_or-take, length-replicate, length-take-le, map-append, take_all, take_more}
use Rattle.std.proofs.lemmas.List.Elements.{All-cons, All-nil, All-push, Contains-append_cases, Contains-append_right, Contains-push_cases}
use Rattle.std.proofs.lemmas.List.Sums.{fold_push}
use Rattle.graph_base.specs.Finish.{IsBehindTargets}
use Rattle.crate_graph_values.specs.declared.builder.CrateBuilder.{CrateBuilder}
use Rattle.crate_graph_values.specs.declared.crate_data.Dependency.{Dependency}
use Rattle.crate_graph_values.specs.Laws.{renamed_dependency}
use Rattle.crate_graph.proofs.ExtendLemmas.{crate_edge}
use Rattle.crate_graph.proofs.GraphLemmas.{length-edges, slice_get_some}
use Rattle.crate_graph.specs.Graph.{edges, target_of}
use Rattle.input_db.specs.Database.{Database, with_crate_input}
use Rattle.input_db.specs.Identity.{Table, crate_for, named_in, unique_eq, with_entry}
use Rattle.crate_graph.specs.Extend.{Id}
use Rattle.input_db.specs.Identity.{data_of, identity_of, input_of}
use Rattle.input_db.specs.FinishSteps.{Progress, finish, finish_crate, is_first_of_root, progress_after}
use Rattle.input_db.specs.Identity.{number_in}
use Rattle.input_db.specs.SetInDb.{with_member}
use Rattle.input_db.specs.FinishSteps.{initial_progress}
use Rattle.input_db.specs.SetInDb.{finished_crate, first_places}
use Rattle.input_db.specs.declared.crate_input.CrateInput.{CrateInput}
use Rattle.input_db.specs.declared.crate_input.UniqueCrateData.{UniqueCrateData}
use Rattle.input_db.proofs.PlaceLemmas.{put_longer, put_within}
use Rattle.input_db.proofs.Run.{before, final_numbers}
use Rattle.input_db.proofs.RunLemmas.{before_more, crate_place, finish-at, finish-long, finish-other, long, stable}

-- ---- the table

-- no entry is lost
pub with_entry-longer : (table : Table) (unique : UniqueCrateData) (input : CrateInput)
    → length table ≤ length (with_entry table unique input)
with_entry-longer table unique input = put_longer unique_eq unique input table

-- the number of an identity is one of the table that it is put into
pub crate_for-within : (table : Table) (unique : UniqueCrateData) (input : CrateInput)
    → crate_for table unique < length (with_entry table unique input)
crate_for-within table unique input = put_within unique_eq unique input table

-- ---- the numbers of the crates of the graph

finish-longer : (crates : List CrateBuilder) (l : Progress) (n : ℕ) → length l.db.crates ≤ length (finish crates l n).db.crates
unfolding finish
finish-longer crates l n =
    elim (slice_get crates n) as (λ o. length l.db.crates ≤ length (option_map_or (finish_crate l n) o l).db.crates) [
      | Some krate ↦ with_entry-longer l.db.crates _ _
      | None ↦ omega arith
    ]

-- the crate that is finished has a number of the table
finish-own : (crates : List CrateBuilder) (l : Progress) (n : ℕ) → n < length crates → length l.finished.numbers ≡ length crates
    → get_or (finish crates l n).finished.numbers n 0 < length (finish crates l n).db.crates
finish-own crates l n within as_many =
    let at = slice_get_some crates n within in
    let unique = identity_of (is_first_of_root l.finished.roots at.0.basic.root_file_id) (number_in l.finished.numbers) at.0 in
    let input = input_of (number_in l.finished.numbers) at.0 in
    let number : get_or (finish_crate l n at.0).finished.numbers n 0 ≡ crate_for l.db.crates unique =
    get_or-set_same l.finished.numbers n (crate_for l.db.crates unique) 0 (omega (arith, within, as_many)) in
    subst (λ r. get_or r.finished.numbers n 0 < length r.db.crates) (sym (finish-at crates l n at.0 at.1))
    (subst (λ v. v < length (with_entry l.db.crates unique input)) (sym number) (crate_for-within l.db.crates unique input))

-- so has each that was finished before
all_known : (crates : List CrateBuilder) (l : Progress) (ns : List ℕ) (n : ℕ) → n < length crates → length l.finished.numbers ≡ length crates
    → (Contains ns n) ⊎ (get_or l.finished.numbers n 0 < length l.db.crates)
    → get_or (fold (finish crates) l ns).finished.numbers n 0 < length (fold (finish crates) l ns).db.crates
all_known crates l [] n within as_many (inl c) = absurd (omega (arith, c.1))
all_known crates l [] n within as_many (inr below) = below
all_known crates l (m ∷ ns) n within as_many has =
    let next = finish crates l m in
    let rest = all_known crates next ns n within (finish-long crates l m ∙ as_many) in
    elim (cases_eq n m) [
      | inl same ↦
          rest (inr (subst (λ k. get_or (finish crates l k).finished.numbers n 0 < length (finish crates l k).db.crates) same
          (finish-own crates l n within as_many)))
      | inr differ ↦ elim has [
        | inl c ↦ elim (Contains-append_cases (m ∷ []) ns n c) [
          | inl first ↦ elim (Contains-push_cases [] m n first) [
            | inl none ↦ absurd (omega (arith, none.1))
            | inr same ↦ absurd (differ (sym same))
          ]
          | inr later ↦ rest (inl later)
        ]
        | inr below ↦ rest (inr (omega (arith, below, finish-other crates l m n differ, finish-longer crates l m)))
      ]
    ]

-- what holds of the new numbers of all targets
all_named : (bound : ℕ) (new : Id → ℕ) (deps : List (Dependency Id)) → ((id : Id) → Contains (map target_of deps) id.raw → new id < bound)
    → All (λ named. named < bound) (map (λ dep. dep.crate_id) (map (renamed_dependency new) deps))
all_named bound new [] below = All-nil (λ named. named < bound)
all_named bound new (dep ∷ deps) below =
    let rest = all_named bound new deps (λ id c. below id (Contains-append_right (target_of dep ∷ []) (map target_of deps) id.raw c)) in
    All-cons (λ named. named < bound) (new dep.crate_id) (map (λ (d : Dependency ℕ). d.crate_id) (map (renamed_dependency new) deps))
    (below dep.crate_id (0, omega arith, refl)) rest

-- ---- the numbers that are given

-- all that are given are numbers of the table
abbrev AreGiven : Progress → Type 0
AreGiven l = All (λ krate. krate < length l.db.crates) l.finished.given

member_below : (bound : ℕ) (ns : List ℕ) (n : ℕ) → All (λ krate. krate < bound) ns → n < bound
    → All (λ krate. krate < bound) (with_member ns n)
member_below bound ns n all within =
    elim (list_any (nat_eq n) ns) as (λ t. All (λ krate. krate < bound) (cond t ns (ns ++ n ∷ []))) [
      | true ↦ all
      | false ↦ All-push (λ krate. krate < bound) ns n all within
    ]

finish-given : (crates : List CrateBuilder) (l : Progress) (n : ℕ) → AreGiven l → AreGiven (finish crates l n)
unfolding finish
finish-given crates l n given = elim (slice_get crates n) as (λ o. AreGiven (option_map_or (finish_crate l n) o l)) [
  | Some krate ↦
      let unique = identity_of (is_first_of_root l.finished.roots krate.basic.root_file_id) (number_in l.finished.numbers) krate in
      let input = input_of (number_in l.finished.numbers) krate in
      let more : length l.db.crates ≤ length (with_entry l.db.crates unique input) = with_entry-longer l.db.crates unique input in
      member_below (length (with_entry l.db.crates unique input)) l.finished.given (crate_for l.db.crates unique)
      (λ k d within. omega (arith, given k d within, more)) (crate_for-within l.db.crates unique input)
  | None ↦ given
]

all_given : (crates : List CrateBuilder) (l : Progress) (ns : List ℕ) → AreGiven l → AreGiven (fold (finish crates) l ns)
all_given crates l [] given = given
all_given crates l (n ∷ ns) given = all_given crates (finish crates l n) ns (finish-given crates l n given)

pub given_known : (crates : List CrateBuilder) (old : Database) (order : List ℕ)
    → All (λ krate. krate < length (progress_after crates old order).db.crates) (progress_after crates old order).finished.given
given_known crates old order = all_given crates (initial_progress crates old) order (All-nil (λ krate. krate < length old.crates))

-- the number of the crate that is finished is given
finish-member : (crates : List CrateBuilder) (l : Progress) (n : ℕ) → n < length crates → length l.finished.numbers ≡ length crates
    → (finish crates l n).finished.given ≡ with_member l.finished.given (get_or (finish crates l n).finished.numbers n 0)
finish-member crates l n within as_many =
    let at = slice_get_some crates n within in
    let unique = identity_of (is_first_of_root l.finished.roots at.0.basic.root_file_id) (number_in l.finished.numbers) at.0 in
    let number : get_or (finish_crate l n at.0).finished.numbers n 0 ≡ crate_for l.db.crates unique =
    get_or-set_same l.finished.numbers n (crate_for l.db.crates unique) 0 (omega (arith, within, as_many)) in
    subst (λ r. r.finished.given ≡ with_member l.finished.given (get_or r.finished.numbers n 0)) (sym (finish-at crates l n at.0 at.1))
    (ap (with_member l.finished.given) (sym number))

module _ (crates : List CrateBuilder) (old : Database) (order : List ℕ) (behind : IsBehindTargets (edges crates) order) where
  -- the order names crates of the graph
  in_graph : (k : ℕ) → k < length order → get_or order k 0 < length crates
  in_graph k within =
      let n = get_or order k 0 in
      omega (arith, (behind.all n).0 (k, within, get_or_default order k n 0 within), length-edges crates)

  -- what a crate depends on has numbers of the table before it is finished
  pub known : (k : ℕ) (krate : CrateBuilder) → finished_crate crates order k ≡ Some krate
      → All (λ named. named < length (before crates old order k).db.crates)
      (named_in (data_of (number_in (before crates old order k).finished.numbers) krate))
  known k krate is =
      let place = crate_place crates order k krate is in
      let l = before crates old order k in
      all_named (length l.db.crates) (number_in l.finished.numbers) krate.basic.dependencies (λ id c.
      let target = behind.behind k id.raw place.0 (crate_edge crates (get_or order k 0) id.raw krate place.1 c) in
      let low : target.0 < k = target.1 in
      let here : get_or order target.0 0 ≡ id.raw = target.2 in
      let inside : id.raw < length crates = omega (arith, in_graph target.0 (omega (arith, place.0)), here) in
      let earlier : Contains (take k order) id.raw = (
        target.0,
        omega (arith, low, place.0, length-take-le k order (omega (arith, place.0))),
        get_or-take k order target.0 id.raw low ∙ get_or_default order target.0 id.raw 0 (omega (arith, place.0)) ∙ here,
      ) in
      all_known crates (initial_progress crates old) (take k order) id.raw inside (length-replicate (length crates) 0) (inl earlier))

  given_upto : (k : ℕ) → k ≤ length order
      → (before crates old order k).finished.given ≡ first_places (map (λ n. get_or (final_numbers crates old order) n 0) (take k order))
  given_upto zero within = refl
  given_upto (suc i) within =
      let there : i < length order = omega arith in
      let next : suc i ≡ i + 1 = omega arith in
      let new : ℕ → ℕ = λ n. get_or (final_numbers crates old order) n 0 in
      let n = get_or order i 0 in
      let l = before crates old order i in
      let front : map new (take (suc i) order) ≡ map new (take i order) ++ new (get_or order i 0) ∷ [] =
      ap (λ j. map new (take j order)) next ∙ ap (map new) (take_more order i 0 there)
      ∙ map-append new (take i order) (get_or order i 0 ∷ []) in
      let number : get_or (finish crates l n).finished.numbers n 0 ≡ new n =
      ap (λ r. get_or r.finished.numbers n 0) (sym (before_more crates old order i there))
      ∙ stable crates old order behind i (suc i) (omega arith) (omega arith) there in
      ap (λ r. r.finished.given) (before_more crates old order i there)
      ∙ finish-member crates l n (in_graph i there) (long crates old order i)
      ∙ ap (with_member l.finished.given) number
      ∙ ap (λ ns. with_member ns (new n)) (given_upto i (omega arith))
      ∙ sym (ap first_places front ∙ fold_push with_member [] (map new (take i order)) (new n))

  pub given_is : (progress_after crates old order).finished.given ≡ first_places (map (λ n. get_or (final_numbers crates old order) n 0) order)
  given_is =
      let all : take (length order) order ≡ order = take_all (length order) order (omega arith) in
      subst (λ ns. (progress_after crates old ns).finished.given ≡ first_places (map (λ n. get_or (final_numbers crates old order) n 0) ns)) all
      (given_upto (length order) (omega arith))

-- ---- what stays of the database

-- a part that no crate changes is as it was
module _ {X : Type 0} (part : Database → X)
    (same : (db : Database) (unique : UniqueCrateData) (input : CrateInput) → part (with_crate_input db unique input) ≡ part db) where
  finish-part : (crates : List CrateBuilder) (l : Progress) (n : ℕ) → part (finish crates l n).db ≡ part l.db
  unfolding finish
  finish-part crates l n = elim (slice_get crates n) as (λ o. part (option_map_or (finish_crate l n) o l).db ≡ part l.db) [
    | Some krate ↦ same l.db _ _
    | None ↦ refl
  ]

  all_part : (crates : List CrateBuilder) (l : Progress) (ns : List ℕ) → part (fold (finish crates) l ns).db ≡ part l.db
  all_part crates l [] = refl
  all_part crates l (n ∷ ns) = all_part crates (finish crates l n) ns ∙ finish-part crates l n

module _ (crates : List CrateBuilder) (old : Database) (order : List ℕ) where
  pub files-progress_after : (progress_after crates old order).db.files ≡ old.files
  files-progress_after = all_part (λ db. db.files) (λ db unique input. refl) crates (initial_progress crates old) order

  pub local-progress_after : (progress_after crates old order).db.local ≡ old.local
  local-progress_after = all_part (λ db. db.local) (λ db unique input. refl) crates (initial_progress crates old) order

  pub library-progress_after : (progress_after crates old order).db.library ≡ old.library
  library-progress_after = all_part (λ db. db.library) (λ db unique input. refl) crates (initial_progress crates old) order

  pub nonce-progress_after : (progress_after crates old order).db.nonce ≡ old.nonce
  nonce-progress_after = all_part (λ db. db.nonce) (λ db unique input. refl) crates (initial_progress crates old) order

  pub listed-progress_after : (progress_after crates old order).db.listed ≡ old.listed
  listed-progress_after = all_part (λ db. db.listed) (λ db unique input. refl) crates (initial_progress crates old) order

  pub listed_durability-progress_after : (progress_after crates old order).db.listed_durability ≡ old.listed_durability
  listed_durability-progress_after = all_part (λ db. db.listed_durability) (λ db unique input. refl) crates (initial_progress crates old) order
