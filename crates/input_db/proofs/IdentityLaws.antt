-- The numbers of the crates of a run: each has that of its identity, and two have one number just where they are alike.
use Rattle.std.proofs.Common.{◌≡◌, ◌⊎◌, ℕ, suc, ◌<◌, ◌≤◌, inl, inr, Bool, true, false, ◌&&◌, not, List, Some, get_or, length, position}
use Rattle.std.proofs.Common.{take, refl, sym, ap, ◌∙◌, subst, arith}
use Rattle.std.specs.Prelude.{nat_eq}
use Rattle.std.specs.List.{All, list_any}
use Rattle.std.specs.Option.{option_map, unwrap_or}
use Rattle.std.proofs.lemmas.Bool.{and_parts, cases_order, eq-eqb, eqb-true, false≢true}
use Rattle.std.proofs.lemmas.List.{get_or-take, length-take-le}
use Rattle.std.proofs.lemmas.List.Folds.{list_any_at}
use Rattle.std.proofs.lemmas.List.Quantifiers.{position-Some}
use Rattle.std.proofs.lemmas.Option.{same_Some}
use Rattle.graph_base.specs.Finish.{IsBehindTargets}
use Rattle.base_text_paths.specs.Paths.{IsClean}
use Rattle.base_text_outside.specs.declared.cfg.CfgAtom.{CfgAtom}
use Rattle.crate_graph.proofs.GraphLemmas.{clean_at}
use Rattle.crate_graph.specs.Graph.{edges}
use Rattle.crate_graph_values.specs.declared.builder.CrateBuilder.{CrateBuilder}
use Rattle.crate_graph_values.specs.declared.crate_data.CrateData.{CrateData}
use Rattle.input_db.specs.Database.{Database}
use Rattle.input_db.specs.Identity.{Table, crate_in, unique_eq, uniques_in}
use Rattle.input_db.specs.Identity.{full_identity, data_of, identity_of, input_of, number_in, root_identity}
use Rattle.input_db.specs.FinishSteps.{Progress, progress_after}
use Rattle.input_db.specs.SetInDb.{AreAlike, HaveIdentities, ShareWhereAlike, finished_crate, finished_number, identity_at, is_first_at, is_of_root}
use Rattle.input_db.proofs.ContentLaws.{full_identities}
use Rattle.input_db.proofs.Equality.{unique_itself, unique_through, unique_turned}
use Rattle.input_db.proofs.PlaceLemmas.{place_kept, place_put}
use Rattle.input_db.proofs.Run.{IsRun, IsStable, final_numbers}
use Rattle.input_db.proofs.RunLemmas.{crate_place}
use Rattle.input_db.proofs.RunSteps.{at_end, climbs, crate_some, crate_there, given_is, place_within, table_before, table_put}

-- the first crates of two root files have equal identities only where the files are one
root_identities : (file other : ℕ) → unique_eq (root_identity file) (root_identity other) ≡ true → file ≡ other
root_identities file other same =
    let test : (nat_eq file other && true) ≡ true = same in
    eqb-true file other (and_parts (nat_eq file other) true test).0

-- no first crate of a root file has the identity of one that is not
root_not_full : (file other : ℕ) (krate : CrateData ℕ) (cfgs : List CfgAtom)
    → unique_eq (root_identity file) (full_identity other krate cfgs) ≡ true → ⊥
root_not_full file other krate cfgs same =
    let test : (nat_eq file other && false) ≡ true = same in
    false≢true (and_parts (nat_eq file other) false test).1

-- each crate has the number of its identity
pub identities : (crates : List CrateBuilder) (old : Database) (order : List ℕ)
    → IsBehindTargets (edges crates) order → IsRun crates old order → IsStable crates old order
    → HaveIdentities crates order (final_numbers crates old order) (progress_after crates old order).db.crates
identities crates old order behind run stable k krate at =
    let numbers = final_numbers crates old order in
    let u = identity_at crates order numbers k krate in
    let v = input_of (number_in numbers) krate in
    let n = finished_number numbers order k in
    let within = place_within crates order k krate at in
    let start : crate_in (table_before crates old order (suc k)) u ≡ Some n =
    ap (λ (t : Table). crate_in t u) (table_put crates order behind old run k krate at)
    ∙ place_put unique_eq u v (unique_itself u) (table_before crates old order k)
    ∙ sym (ap Some (given_is crates order behind old run stable k krate at)) in
    let kept : (m : ℕ) → suc k ≤ m → m < length order → crate_in (table_before crates old order m) u ≡ Some n
    → crate_in (table_before crates old order (suc m)) u ≡ Some n = λ m past below is.
    let c = crate_some crates order behind m below in
    ap (λ (t : Table). crate_in t u) (table_put crates order behind old run m c.0 c.1)
    ∙ place_kept unique_eq (identity_at crates order numbers m c.0) (input_of (number_in numbers) c.0) (unique_eq u)
    (table_before crates old order m) n is in
    subst (λ (l : Progress). crate_in l.db.crates u ≡ Some n) (at_end crates old order)
    (climbs (λ m. crate_in (table_before crates old order m) u ≡ Some n) (suc k) (length order) (omega arith) start kept)

-- a crate behind another of its root file is not the first of that
later_not_first : (crates : List CrateBuilder) (order : List ℕ) (i j : ℕ) (x y : CrateBuilder) → finished_crate crates order i ≡ Some x
    → finished_crate crates order j ≡ Some y → x.basic.root_file_id ≡ y.basic.root_file_id → i < j
    → is_first_at crates order j y ≡ true → ⊥
later_not_first crates order i j x y at_i at_j roots below first =
    let file = y.basic.root_file_id in
    let short : length (take j order) ≡ j =
    length-take-le j order (omega (arith, place_within crates order j y at_j)) in
    let of_root : is_of_root crates file (get_or order i 0) ≡ true =
    ap (λ o. unwrap_or (option_map (λ (krate : CrateBuilder). nat_eq file krate.basic.root_file_id) o) false)
    (crate_there crates order i x at_i)
    ∙ eq-eqb file x.basic.root_file_id (sym roots) in
    let has : list_any (is_of_root crates file) (take j order) ≡ true =
    list_any_at (is_of_root crates file) (take j order) i 0 (omega (arith, below, short))
    (ap (is_of_root crates file) (get_or-take j order i 0 below) ∙ of_root) in
    false≢true (sym (ap not has) ∙ first)

-- the crates of a graph run procedural macros in clean paths
abbrev pub HaveCleanPaths : List CrateBuilder → List ℕ → Type 0
HaveCleanPaths crates order = (k : ℕ) (krate : CrateBuilder) → finished_crate crates order k ≡ Some krate
    → IsClean krate.basic.proc_macro_cwd

-- so they do where all crates of the graph do
pub clean_paths : (crates : List CrateBuilder) (order : List ℕ) → All (λ krate. IsClean krate.basic.proc_macro_cwd) crates
    → HaveCleanPaths crates order
clean_paths crates order all k krate at =
    clean_at crates (get_or order k 0) krate all (crate_place crates order k krate at).1

-- crates of one full identity are alike
alike : (numbers : List ℕ) (x y : CrateBuilder) → IsClean x.basic.proc_macro_cwd → IsClean y.basic.proc_macro_cwd
    → unique_eq (full_identity x.basic.root_file_id (data_of (number_in numbers) x) x.cfg_options)
    (full_identity y.basic.root_file_id (data_of (number_in numbers) y) y.cfg_options) ≡ true
    → AreAlike numbers x y
alike numbers x y clean_x clean_y e =
    let same = full_identities x.basic.root_file_id y.basic.root_file_id (data_of (number_in numbers) x)
    (data_of (number_in numbers) y) x.cfg_options y.cfg_options clean_x clean_y e in
    record { crate_data = same.0; cfg_options = same.1 }

-- crates that are alike have one full identity
one_identity : (numbers : List ℕ) (x y : CrateBuilder) → AreAlike numbers x y
    → full_identity x.basic.root_file_id (data_of (number_in numbers) x) x.cfg_options
    ≡ full_identity y.basic.root_file_id (data_of (number_in numbers) y) y.cfg_options
one_identity numbers x y are =
    λ i. full_identity (are.crate_data i).root_file_id (are.crate_data i) (are.cfg_options i)

-- neither crate is the first of its root file, and both are alike
abbrev AreLaterAlike : List CrateBuilder → List ℕ → List ℕ → ℕ → CrateBuilder → ℕ → CrateBuilder → Type 0
AreLaterAlike crates order numbers i x j y =
    (is_first_at crates order i x ≡ false) × (is_first_at crates order j y ≡ false) × AreAlike numbers x y

-- crates of equal identities are one, or are alike
equal_alike : (crates : List CrateBuilder) (order numbers : List ℕ) (i j : ℕ) (x y : CrateBuilder)
    → HaveCleanPaths crates order → finished_crate crates order i ≡ Some x → finished_crate crates order j ≡ Some y
    → unique_eq (identity_at crates order numbers i x) (identity_at crates order numbers j y) ≡ true
    → (i ≡ j) ⊎ AreLaterAlike crates order numbers i x j y
equal_alike crates order numbers i j x y clean at_i at_j equal =
    by (is_first_at crates order i x) (is_first_at crates order j y) refl refl equal
  where
    firsts : is_first_at crates order i x ≡ true → is_first_at crates order j y ≡ true
        → x.basic.root_file_id ≡ y.basic.root_file_id → i ≡ j
    firsts p q roots = elim (cases_order i j) [
      | inl same ↦ same
      | inr differ ↦ elim differ [
        | inl below ↦ absurd (later_not_first crates order i j x y at_i at_j roots below q)
        | inr above ↦ absurd (later_not_first crates order j i y x at_j at_i (sym roots) above p)
      ]
    ]

    by : (b c : Bool) → is_first_at crates order i x ≡ b → is_first_at crates order j y ≡ c
        → unique_eq (identity_of b (number_in numbers) x) (identity_of c (number_in numbers) y) ≡ true
        → (i ≡ j) ⊎ AreLaterAlike crates order numbers i x j y
    by true true p q e = inl (firsts p q (root_identities x.basic.root_file_id y.basic.root_file_id e))
    by true false p q e =
        absurd (root_not_full x.basic.root_file_id y.basic.root_file_id (data_of (number_in numbers) y) y.cfg_options e)
    by false true p q e =
        absurd (root_not_full y.basic.root_file_id x.basic.root_file_id (data_of (number_in numbers) x) x.cfg_options
        (unique_turned (identity_of false (number_in numbers) x) (identity_of true (number_in numbers) y) e))
    by false false p q e = inr (p, q, alike numbers x y (clean i x at_i) (clean j y at_j) e)

-- two crates have one number exactly where they are one, or are alike and neither is the first of its root file
pub shared : (crates : List CrateBuilder) (old : Database) (order : List ℕ)
    → IsBehindTargets (edges crates) order → IsRun crates old order → IsStable crates old order → HaveCleanPaths crates order
    → ShareWhereAlike crates order (final_numbers crates old order)
shared crates old order behind run stable clean i j x y at_i at_j =
    let numbers = final_numbers crates old order in
    let keys = uniques_in (progress_after crates old order).db.crates in
    let u = identity_at crates order numbers i x in
    let w = identity_at crates order numbers j y in
    let m = finished_number numbers order i in
    let n = finished_number numbers order j in
    let first : position (unique_eq u) keys ≡ Some m = identities crates old order behind run stable i x at_i in
    let second : position (unique_eq w) keys ≡ Some n = identities crates old order behind run stable j y at_j in
    let to : m ≡ n → (i ≡ j) ⊎ AreLaterAlike crates order numbers i x j y = λ one.
    let near : unique_eq u (get_or keys m u) ≡ true = (position-Some (unique_eq u) keys m u first).1 in
    let far : unique_eq w (get_or keys n u) ≡ true = (position-Some (unique_eq w) keys n u second).1 in
    let here : unique_eq w (get_or keys m u) ≡ true = subst (λ p. unique_eq w (get_or keys p u) ≡ true) (sym one) far in
    equal_alike crates order numbers i j x y clean at_i at_j
    (unique_through u (get_or keys m u) w near (unique_turned w (get_or keys m u) here)) in
    let same : AreLaterAlike crates order numbers i x j y → m ≡ n = λ are.
    let one : u ≡ w =
    ap (λ b. identity_of b (number_in numbers) x) are.0 ∙ one_identity numbers x y are.2
    ∙ sym (ap (λ b. identity_of b (number_in numbers) y) are.1) in
    same_Some m n (sym first ∙ ap (λ v. position (unique_eq v) keys) one ∙ second) in
    let from : (i ≡ j) ⊎ AreLaterAlike crates order numbers i x j y → m ≡ n = λ either.
    elim either [ inl one ↦ ap (finished_number numbers order) one | inr are ↦ same are ] in
    (to, from)
