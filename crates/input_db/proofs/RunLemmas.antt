-- The crates of a graph are finished one by one: how many numbers there are, that they stay, and that each crate is
-- finished as the numbers of the end tell it.
use Rattle.std.proofs.Common.{◌≡◌, ℕ, suc, ◌+◌, ◌-◌, ◌<◌, inl, inr, List, [], ◌∷◌, map, take, drop, length, get_or, fold}
use Rattle.std.proofs.Common.{Some, None, refl, sym, ap, ◌∙◌, arith, get_or-set_other, length-set}
use Rattle.std.specs.Prelude.{if◌then◌else◌, slice_get}
use Rattle.std.specs.List.{Contains}
use Rattle.std.specs.Option.{option_and_then, option_map_or}
use Rattle.std.proofs.lemmas.Bool.{cases_lt}
use Rattle.std.proofs.lemmas.List.{get_or-drop, get_or_default, length-drop, length-replicate, take-append-drop}
use Rattle.std.proofs.lemmas.List.Elements.{Contains-append_right}
use Rattle.std.proofs.lemmas.List.Sums.{fold-append, fold_more}
use Rattle.std.proofs.lemmas.Option.{slice_get-get_or, slice_get_past}
use Rattle.graph_base.specs.Finish.{IsBehindTargets}
use Rattle.crate_graph_values.specs.declared.builder.CrateBuilder.{CrateBuilder}
use Rattle.crate_graph_values.specs.declared.crate_data.CrateData.{CrateData}
use Rattle.crate_graph_values.specs.declared.crate_data.Dependency.{Dependency}
use Rattle.crate_graph_values.specs.Builder.{workspace_of}
use Rattle.crate_graph.specs.Graph.{edges, dependency_row, target_of}
use Rattle.crate_graph_values.specs.Laws.{renamed_dependency}
use Rattle.crate_graph.proofs.ExtendLemmas.{crate_edge}
use Rattle.input_db.specs.Database.{Database}
use Rattle.crate_graph.specs.Extend.{Id}
use Rattle.input_db.specs.Identity.{full_identity, data_of, number_in, root_identity}
use Rattle.input_db.specs.FinishSteps.{Progress, finish, finish_crate, is_first_of_root, progress_after}
use Rattle.input_db.specs.FinishSteps.{initial_progress, with_put_crate}
use Rattle.input_db.specs.SetInDb.{finished_crate}
use Rattle.input_db_files.specs.declared.durability.Durability.TheVariants.{Medium}
use Rattle.input_db.proofs.Run.{IsRun, IsStable, before, final_numbers}

-- the crate of a number is finished
pub finish-at : (crates : List CrateBuilder) (l : Progress) (n : ℕ) (krate : CrateBuilder) → slice_get crates n ≡ Some krate
    → finish crates l n ≡ finish_crate l n krate
unfolding finish
finish-at crates l n krate is = ap (λ o. option_map_or (finish_crate l n) o l) is

pub finish-long : (crates : List CrateBuilder) (l : Progress) (n : ℕ) → length (finish crates l n).finished.numbers ≡ length l.finished.numbers
unfolding finish
finish-long crates l n =
    elim (slice_get crates n) as (λ o. length (option_map_or (finish_crate l n) o l).finished.numbers ≡ length l.finished.numbers) [
      | Some krate ↦ length-set l.finished.numbers n _
      | None ↦ refl
    ]

-- as many numbers as before
pub all-long : (crates : List CrateBuilder) (l : Progress) (ns : List ℕ)
    → length (fold (finish crates) l ns).finished.numbers ≡ length l.finished.numbers
all-long crates l [] = refl
all-long crates l (n ∷ ns) = all-long crates (finish crates l n) ns ∙ finish-long crates l n

-- there is a number for each crate, at each place of the order
pub long : (crates : List CrateBuilder) (old : Database) (order : List ℕ) (k : ℕ)
    → length (before crates old order k).finished.numbers ≡ length crates
long crates old order k = all-long crates (initial_progress crates old) (take k order) ∙ length-replicate (length crates) 0

-- the number of another crate stays
pub finish-other : (crates : List CrateBuilder) (l : Progress) (n m : ℕ) → (m ≡ n → ⊥)
    → get_or (finish crates l n).finished.numbers m 0 ≡ get_or l.finished.numbers m 0
unfolding finish
finish-other crates l n m differ =
    elim (slice_get crates n) as (λ o. get_or (option_map_or (finish_crate l n) o l).finished.numbers m 0 ≡ get_or l.finished.numbers m 0) [
      | Some krate ↦ get_or-set_other l.finished.numbers n m _ 0 differ
      | None ↦ refl
    ]

others_stay : (crates : List CrateBuilder) (l : Progress) (ns : List ℕ) (m : ℕ) → (Contains ns m → ⊥)
    → get_or (fold (finish crates) l ns).finished.numbers m 0 ≡ get_or l.finished.numbers m 0
others_stay crates l [] m out = refl
others_stay crates l (n ∷ ns) m out =
    others_stay crates (finish crates l n) ns m (λ c. out (Contains-append_right (n ∷ []) ns m c))
    ∙ finish-other crates l n m (λ same. out (0, omega arith, sym same))

-- what is finished in all is what is finished from a place on, over what is finished before
finished_from : (crates : List CrateBuilder) (old : Database) (order : List ℕ) (k : ℕ)
    → progress_after crates old order ≡ fold (finish crates) (before crates old order k) (drop k order)
finished_from crates old order k =
    ap (fold (finish crates) (initial_progress crates old)) (sym (take-append-drop k order))
    ∙ fold-append (finish crates) (initial_progress crates old) (take k order) (drop k order)

-- one crate more is finished
pub before_more : (crates : List CrateBuilder) (old : Database) (order : List ℕ) (k : ℕ) → k < length order
    → before crates old order (suc k) ≡ finish crates (before crates old order k) (get_or order k 0)
before_more crates old order k within =
    let next : suc k ≡ k + 1 = omega arith in
    ap (λ i. fold (finish crates) (initial_progress crates old) (take i order)) next
    ∙ fold_more (finish crates) (initial_progress crates old) order k 0 within

-- a crate of the order is finished at its place alone
not_later : (order : List ℕ) → ((i j : ℕ) → i < j → j < length order → get_or order i 0 ≡ get_or order j 0 → ⊥)
    → (k later : ℕ) → k < later → Contains (drop later order) (get_or order k 0) → ⊥
not_later order once k later above c =
    let inside : c.0 < length order - later = omega (arith, c.1, length-drop later order) in
    let place : c.0 + later < length order = omega arith in
    let here : get_or (drop later order) c.0 (get_or order k 0) ≡ get_or order (later + c.0) (get_or order k 0) =
    get_or-drop later order c.0 (get_or order k 0) in
    once k (later + c.0) (omega arith) (omega arith)
    (sym c.2 ∙ here ∙ get_or_default order (later + c.0) (get_or order k 0) 0 (omega arith))

module _ (crates : List CrateBuilder) (old : Database) (order : List ℕ) (behind : IsBehindTargets (edges crates) order) where
  pub stable : IsStable crates old order
  stable k later above to within =
      let n = get_or order k 0 in
      sym (ap (λ l. get_or l.finished.numbers n 0) (finished_from crates old order later)
      ∙ others_stay crates (before crates old order later) (drop later order) n (not_later order behind.once k later above))

-- dependencies are renamed alike where the numbers of their targets are
same_dependencies : (new other : Id → ℕ) (deps : List (Dependency Id))
    → ((id : Id) → Contains (map target_of deps) id.raw → new id ≡ other id)
    → map (renamed_dependency new) deps ≡ map (renamed_dependency other) deps
same_dependencies new other [] agree = refl
same_dependencies new other (dep ∷ deps) agree =
    let first : new dep.crate_id ≡ other dep.crate_id = agree dep.crate_id (0, omega arith, refl) in
    let rest = same_dependencies new other deps (λ id c.
    agree id (Contains-append_right (target_of dep ∷ []) (map target_of deps) id.raw c)) in
    λ i. record { crate_id = first i; name = dep.name; prelude = dep.prelude; sysroot = dep.sysroot } ∷ rest i

-- the data of a crate, with other dependencies
abbrev data_with : CrateBuilder → List (Dependency ℕ) → CrateData ℕ
data_with krate deps = record {
  root_file_id = krate.basic.root_file_id;
  edition = krate.basic.edition;
  dependencies = deps;
  origin = krate.basic.origin;
  crate_attrs = krate.basic.crate_attrs;
  target_kind = krate.basic.target_kind;
  proc_macro_cwd = krate.basic.proc_macro_cwd;
}

-- a crate is renamed alike where the numbers of those that it depends on are
pub same_data : (new other : Id → ℕ) (krate : CrateBuilder) → ((id : Id) → Contains (dependency_row krate) id.raw → new id ≡ other id)
    → data_of new krate ≡ data_of other krate
same_data new other krate agree = ap (data_with krate) (same_dependencies new other krate.basic.dependencies agree)

-- a crate is finished with data
abbrev finished_with : Progress → ℕ → CrateBuilder → CrateData ℕ → Progress
finished_with l n krate data_there =
    with_put_crate l n krate
    (if is_first_of_root l.finished.roots krate.basic.root_file_id then root_identity krate.basic.root_file_id
    else full_identity krate.basic.root_file_id data_there krate.cfg_options)
    (record {
      crate_data = data_there;
      extra_data = krate.extra;
      workspace_data = workspace_of krate;
      cfg_options = krate.cfg_options;
      env = krate.env;
      durability = Medium;
    })

-- where the crate of a place is
pub crate_place : (crates : List CrateBuilder) (order : List ℕ) (k : ℕ) (krate : CrateBuilder) → finished_crate crates order k ≡ Some krate
    → (k < length order) × (slice_get crates (get_or order k 0) ≡ Some krate)
crate_place crates order k krate is = elim (cases_lt k (length order)) [
  | inl within ↦
      (within, sym (ap (option_and_then (slice_get crates)) (slice_get-get_or order k 0 within)) ∙ is)
  | inr past ↦
      let none : option_and_then (slice_get crates) (slice_get order k) ≡ None =
      ap (option_and_then (slice_get crates)) (slice_get_past order k past) in
      absurd (some_none krate (sym is ∙ none))
]
  where
    some_none : {X : Type 0} (x : X) → Some x ≡ None → ⊥
    some_none x is = cc

module _ (crates : List CrateBuilder) (old : Database) (order : List ℕ) (behind : IsBehindTargets (edges crates) order) where
  -- what a crate depends on has its number before it
  same_before : (k : ℕ) (krate : CrateBuilder) → k < length order → slice_get crates (get_or order k 0) ≡ Some krate
      → (id : Id) → Contains (dependency_row krate) id.raw
      → number_in (before crates old order k).finished.numbers id ≡ number_in (final_numbers crates old order) id
  same_before k krate within at id c =
      let target = behind.behind k id.raw within (crate_edge crates (get_or order k 0) id.raw krate at c) in
      let low : target.0 < k = target.1 in
      ap (λ n. get_or (before crates old order k).finished.numbers n 0) (sym target.2)
      ∙ stable crates old order behind target.0 k low (omega arith) (omega arith)
      ∙ ap (λ n. get_or (final_numbers crates old order) n 0) target.2

  pub run : IsRun crates old order
  run k krate is =
      let place = crate_place crates order k krate is in
      let l = before crates old order k in
      let n = get_or order k 0 in
      before_more crates old order k place.0 ∙ finish-at crates l n krate place.1
      ∙ ap (finished_with l n krate)
      (same_data (number_in l.finished.numbers) (number_in (final_numbers crates old order)) krate
      (same_before k krate place.0 place.1))
