-- Setting a graph again, whose crates have each a number of its own, leaves the database as it is.
use Rattle.std.proofs.Common.{◌≡◌, ℕ, zero, suc, ◌+◌, ◌<◌, ◌≤◌, inl, inr, Bool, true, false, cond, not, List, [], ◌∷◌, map, length}
use Rattle.std.proofs.Common.{Some, get_or, if◌then◌else◌, refl, sym, ap, ◌∙◌, subst, arith}
use Rattle.std.specs.Prelude.{nat_eq, slice_get}
use Rattle.std.specs.Cmp.{unsigned_Decides}
use Rattle.std.specs.Cmp.Lexicographic.{pointwise, pointwise_decides}
use Rattle.std.specs.List.{Contains, position_or_len}
use Rattle.std.specs.Map.{keys_of, lookup}
use Rattle.std.specs.Option.{option_map}
use Rattle.std.specs.declared.cmp.Ordering.{Ordering}
use Rattle.std.specs.BTreeMap as tree
use Rattle.std.proofs.lemmas.Bool.{cases_lt}
use Rattle.std.proofs.lemmas.Option.{same_Some}
use Rattle.indexmap.specs.IndexMap.{insert_entry}
use Rattle.graph_base.proofs.FinishLemmas.{visits_unique}
use Rattle.graph_base.specs.Finish.{IsBehindTargets}
use Rattle.crate_graph_values.specs.Builder.{workspace_of}
use Rattle.crate_graph.specs.Graph.{edges, dependency_row}
use Rattle.crate_graph_values.specs.declared.builder.CrateBuilder.{CrateBuilder}
use Rattle.crate_graph_values.specs.declared.crate_data.CrateData.{CrateData}
use Rattle.input_db.specs.Database.{Database, with_crate_input, with_crate_list, writes_after}
use Rattle.input_db.specs.FinishSteps.{IsSetInSteps, Progress, progress_after, with_new_list}
use Rattle.crate_graph.specs.Extend.{Id}
use Rattle.input_db.specs.Identity.{Table, crate_for, crate_in, data_of, full_identity, identity_of, input_in, input_of}
use Rattle.input_db.specs.Identity.{input_under, number_in, root_identity, unique_eq, with_entry}
use Rattle.input_db.specs.SetInDb.{HaveIdentities, HaveOwnNumbers, finished_crate, first_places, identity_at, is_first_at, listed_crates}
use Rattle.input_db.specs.SetInDb.{finished_number}
use Rattle.input_db.specs.declared.crate_input.CrateInput.{CrateInput}
use Rattle.input_db.specs.declared.crate_input.UniqueCrateData.{UniqueCrateData}
use Rattle.input_db_files.specs.declared.durability.Durability.TheVariants.{Medium}
use Rattle.crate_graph.proofs.ExtendLemmas.{crate_edge}
use Rattle.input_db.proofs.Equality.{input_itself}
use Rattle.input_db.proofs.PlaceLemmas.{of_place, one_more}
use Rattle.input_db.proofs.Run.{before, final_numbers}
use Rattle.input_db.proofs.RunLemmas.{run, same_data, stable}
use Rattle.input_db.proofs.RunSteps.{at_end, crate_some, crate_there, first_is, given_is, place_within}

-- ---- a key that is there with its value

module _ {K V : Type 0} (eq : K → K → Bool) (k : K) (v : V) where
  -- putting it in again changes nothing
  put_same : (es : List (K × V)) → position_or_len (eq k) (keys_of es) < length es
      → option_map (λ e. e.1) (slice_get es (position_or_len (eq k) (keys_of es))) ≡ Some v → insert_entry eq es k v ≡ es
  put_same [] within at = absurd (omega arith)
  put_same (e ∷ es) within at = by (put_same es) (eq k e.0) within at
    where
      by : (position_or_len (eq k) (keys_of es) < length es
          → option_map (λ (e : K × V). e.1) (slice_get es (position_or_len (eq k) (keys_of es))) ≡ Some v
          → insert_entry eq es k v ≡ es) → (b : Bool)
          → cond (not b) (1 + position_or_len (eq k) (keys_of es)) 0 < suc (length es)
          → option_map (λ (e : K × V). e.1) (slice_get (e ∷ es) (cond (not b) (1 + position_or_len (eq k) (keys_of es)) 0)) ≡ Some v
          → (if b then (e.0, v) ∷ es else e ∷ insert_entry eq es k v) ≡ e ∷ es
      by rest true within at = ap (λ (w : V). (e.0, w) ∷ es) (sym (same_Some e.1 v at))
      by rest false within at =
          ap (λ (more : List (K × V)). e ∷ more)
          (rest (omega arith)
          (ap (λ n. option_map (λ (x : K × V). x.1) (slice_get (e ∷ es) n)) (sym (one_more (position_or_len (eq k) (keys_of es)))) ∙ at))

  -- its value is what is found
  found_same : (es : List (K × V)) → position_or_len (eq k) (keys_of es) < length es
      → option_map (λ e. e.1) (slice_get es (position_or_len (eq k) (keys_of es))) ≡ Some v → lookup (eq k) es ≡ Some v
  found_same [] within at = absurd (omega arith)
  found_same (e ∷ es) within at = by (found_same es) (eq k e.0) within at
    where
      by : (position_or_len (eq k) (keys_of es) < length es
          → option_map (λ (e : K × V). e.1) (slice_get es (position_or_len (eq k) (keys_of es))) ≡ Some v
          → lookup (eq k) es ≡ Some v) → (b : Bool)
          → cond (not b) (1 + position_or_len (eq k) (keys_of es)) 0 < suc (length es)
          → option_map (λ (e : K × V). e.1) (slice_get (e ∷ es) (cond (not b) (1 + position_or_len (eq k) (keys_of es)) 0)) ≡ Some v
          → (if b then Some e.1 else lookup (eq k) es) ≡ Some v
      by rest true within at = at
      by rest false within at =
          rest (omega arith)
          (ap (λ n. option_map (λ (x : K × V). x.1) (slice_get (e ∷ es) n)) (sym (one_more (position_or_len (eq k) (keys_of es)))) ∙ at)

-- a database that holds an input under an identity's crate stays as it is when it is given that input again
holds_already : (db : Database) (unique : UniqueCrateData) (input : CrateInput) (n : ℕ) → crate_in db.crates unique ≡ Some n
    → input_in db.crates n ≡ Some input → with_crate_input db unique input ≡ db
holds_already db unique input n there held =
    let place = of_place (unique_eq unique) (keys_of db.crates) n there in
    let within : position_or_len (unique_eq unique) (keys_of db.crates) < length db.crates =
    subst (λ m. m < length db.crates) (sym place.0) (omega (arith, place.1, keys_long db.crates)) in
    let at : input_in db.crates (position_or_len (unique_eq unique) (keys_of db.crates)) ≡ Some input =
    ap (input_in db.crates) place.0 ∙ held in
    let table : with_entry db.crates unique input ≡ db.crates = put_same unique_eq unique input db.crates within at in
    let found : input_under db.crates unique ≡ Some input = found_same unique_eq unique input db.crates within at in
    let count : writes_after db.writes (input_under db.crates unique) input ≡ db.writes =
    ap (λ o. writes_after db.writes o input) found
    ∙ ap (λ (b : Bool). if b then db.writes else writes_after db.writes (input_under [] unique) input) (input_itself input) in
    λ i. record db { crates = table i; writes = count i }
  where
    keys_long : (table : Table) → length (keys_of table) ≡ length table
    keys_long [] = refl
    keys_long (e ∷ table) = ap suc (keys_long table)

-- what the database is to hold of a crate, with other data
abbrev input_with : CrateBuilder → CrateData ℕ → CrateInput
input_with krate held_data = record {
  crate_data = held_data;
  extra_data = krate.extra;
  workspace_data = workspace_of krate;
  cfg_options = krate.cfg_options;
  env = krate.env;
  durability = Medium;
}

-- two functions that agree on the items of a list give one list
map_agree : (f g : ℕ → ℕ) (xs : List ℕ) → ((j : ℕ) → j < length xs → f (get_or xs j 0) ≡ g (get_or xs j 0)) → map f xs ≡ map g xs
map_agree f g [] agree = refl
map_agree f g (x ∷ xs) agree =
    let first : f x ≡ g x = agree 0 (omega arith) in
    let rest : map f xs ≡ map g xs = map_agree f g xs (λ j below. agree (suc j) (omega arith)) in
    λ i. first i ∷ rest i

-- ---- the crates, one after the other

module _ (crates : List CrateBuilder) (mid : Database) (order : List ℕ) (behind : IsBehindTargets (edges crates) order)
    (numbers : List ℕ) (identities : HaveIdentities crates order numbers mid.crates)
    (inputs : (k : ℕ) (krate : CrateBuilder) → finished_crate crates order k ≡ Some krate
    → input_in mid.crates (finished_number numbers order k) ≡ Some (input_of (number_in numbers) krate)) where
  -- the database is as it was, and the crates before a place have the numbers that they had
  abbrev pub IsAsBefore : ℕ → Type 0
  IsAsBefore k = ((before crates mid order k).db ≡ mid)
      × ((j : ℕ) → j < k → finished_number (final_numbers crates mid order) order j ≡ finished_number numbers order j)

  pub as_before : (k : ℕ) → k ≤ length order → IsAsBefore k
  as_before zero within = (refl, λ j below. absurd (omega arith))
  as_before (suc k) within =
      let here : k < length order = omega arith in
      let finals = final_numbers crates mid order in
      let is_run = run crates mid order behind in
      let past = as_before k (omega arith) in
      let c = crate_some crates order behind k here in
      let there = crate_there crates order k c.0 c.1 in
      let agree : (id : Id) → Contains (dependency_row c.0) id.raw → number_in finals id ≡ number_in numbers id = λ id d.
      let target = behind.behind k id.raw here (crate_edge crates (get_or order k 0) id.raw c.0 there d) in
      ap (λ n. get_or finals n 0) (sym target.2) ∙ past.1 target.0 target.1 ∙ ap (λ n. get_or numbers n 0) target.2 in
      let same : data_of (number_in finals) c.0 ≡ data_of (number_in numbers) c.0 =
      same_data (number_in finals) (number_in numbers) c.0 agree in
      let first = is_first_at crates order k c.0 in
      let identity : identity_at crates order finals k c.0 ≡ identity_at crates order numbers k c.0 =
      ap (λ (held : CrateData ℕ). if first then root_identity c.0.basic.root_file_id
      else full_identity c.0.basic.root_file_id held c.0.cfg_options) same in
      let input : input_of (number_in finals) c.0 ≡ input_of (number_in numbers) c.0 = ap (input_with c.0) same in
      let known : crate_in mid.crates (identity_at crates order numbers k c.0) ≡ Some (finished_number numbers order k) =
      identities k c.0 c.1 in
      let put : (before crates mid order (suc k)).db
      ≡ with_crate_input (before crates mid order k).db (identity_at crates order finals k c.0) (input_of (number_in finals) c.0) =
      ap (λ (l : Progress). l.db) (is_run k c.0 c.1)
      ∙ ap (λ b. with_crate_input (before crates mid order k).db (identity_of b (number_in finals) c.0) (input_of (number_in finals) c.0))
      (first_is crates order behind mid is_run k c.0 c.1) in
      let db : (before crates mid order (suc k)).db ≡ mid =
      put ∙ ap (λ (d : Database). with_crate_input d (identity_at crates order finals k c.0) (input_of (number_in finals) c.0)) past.0
      ∙ ap (λ (u : UniqueCrateData). with_crate_input mid u (input_of (number_in finals) c.0)) identity
      ∙ ap (λ (v : CrateInput). with_crate_input mid (identity_at crates order numbers k c.0) v) input
      ∙ holds_already mid (identity_at crates order numbers k c.0) (input_of (number_in numbers) c.0) (finished_number numbers order k) known
      (inputs k c.0 c.1) in
      let own : finished_number finals order k ≡ finished_number numbers order k =
      given_is crates order behind mid is_run (stable crates mid order behind) k c.0 c.1
      ∙ ap (λ (d : Database). crate_for d.crates (identity_at crates order finals k c.0)) past.0
      ∙ ap (λ (u : UniqueCrateData). crate_for mid.crates u) identity
      ∙ (of_place (unique_eq (identity_at crates order numbers k c.0)) (keys_of mid.crates) (finished_number numbers order k) known).0 in (
        db,
        λ j below. elim (cases_lt j k) [
          | inl before_it ↦ past.1 j before_it
          | inr not_before ↦ let is : k ≡ j = omega arith in
              subst (λ m. finished_number finals order m ≡ finished_number numbers order m) is own
        ],
      )

-- a list that does not differ is not stored
list_there : (db : Database) (crates : List ℕ) → db.listed ≡ crates → with_new_list db crates ≡ db
list_there db crates same =
    let test : pointwise nat_eq db.listed crates ≡ true = (pointwise_decides unsigned_Decides db.listed crates).1 same in
    ap (λ (b : Bool). if b then db else with_crate_list db crates Medium) test

-- a graph is set, and set again
pub set_again : (cmp : Id → Id → Ordering) (crates : List CrateBuilder) (old mid new : Database) (ids again : tree.BTreeMap Id ℕ)
    (first : IsSetInSteps cmp crates old mid ids) → IsSetInSteps cmp crates mid new again
    → HaveOwnNumbers first.set.order first.set.numbers → new ≡ mid
set_again cmp crates old mid new ids again first second own =
    let order = first.set.order in
    let numbers = first.set.numbers in
    let finals = final_numbers crates mid order in
    let same_order : second.set.order ≡ order = visits_unique second.set.finish_order first.set.finish_order in
    let inputs : (k : ℕ) (krate : CrateBuilder) → finished_crate crates order k ≡ Some krate
    → input_in mid.crates (finished_number numbers order k) ≡ Some (input_of (number_in numbers) krate) = λ k krate at.
    first.set.inputs k krate at (λ later above below same.
    let one : later ≡ k = own later k below (place_within crates order k krate at) same in absurd (omega arith)) in
    let end = as_before crates mid order first.set.behind numbers first.set.identities inputs (length order) (omega arith) in
    let db : (progress_after crates mid order).db ≡ mid =
    ap (λ (l : Progress). l.db) (sym (at_end crates mid order)) ∙ end.0 in
    let named : second.set.numbers ≡ finals = second.numbers ∙ ap (final_numbers crates mid) same_order in
    let mapped : map (λ n. get_or finals n 0) order ≡ map (λ n. get_or numbers n 0) order =
    map_agree (λ n. get_or finals n 0) (λ n. get_or numbers n 0) order end.1 in
    let listed : listed_crates second.set.order second.set.numbers ≡ mid.listed =
    ap (λ (ns : List ℕ). listed_crates ns second.set.numbers) same_order ∙ ap (listed_crates order) named
    ∙ ap first_places mapped ∙ sym first.set.listed in
    let there : (progress_after crates mid second.set.order).db ≡ mid =
    ap (λ (ns : List ℕ). (progress_after crates mid ns).db) same_order ∙ db in
    second.steps ∙ ap (λ (d : Database). with_new_list d (listed_crates second.set.order second.set.numbers)) there
    ∙ list_there mid (listed_crates second.set.order second.set.numbers) (sym listed)
