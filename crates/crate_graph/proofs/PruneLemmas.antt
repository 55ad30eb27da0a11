-- What is named, how it is numbered anew, and the crates that are kept.
use Rattle.std.proofs.Common.{◌≡◌, ℕ, suc, ◌+◌, ◌<◌, ◌≤◌, inl, inr, List, [], ◌∷◌, ◌++◌, Bool, true, false, cond, map, length, get_or, set, take, drop, Option, Some, None, refl, sym, ap, ◌∙◌, subst, arith, get_or-set_same, get_or-set_other, add-one}
use Rattle.std.specs.Prelude.{◌==◌, ◌||◌, slice_index_or}
use Rattle.std.specs.Option.{is_some, option_map}
use Rattle.std.specs.List.{All, Contains, list_all, list_any, range_with_len}
use Rattle.std.proofs.lemmas.Bool.{and_from, cases_Bool, cases_eq, eq-eqb, ne_eqb, false≢true, or_right}
use Rattle.std.proofs.lemmas.List.{append_assoc, drop_more, get_or-map, length-map, map_push}
use Rattle.std.proofs.lemmas.List.Elements.{All-cons, All-head, All-nil, All-tail}
use Rattle.std.proofs.lemmas.List.Folds.{list_all_at, list_all_more, list_all-map, list_any_at, list_any_more}
use Rattle.std.proofs.lemmas.List.FromFn.{get_or-map-range_with_len, length-map-range_with_len, map-range_with_len_more}
use Rattle.base_text_paths.specs.Arena.{number_of}
use Rattle.base_text_paths.specs.declared.arena.Idx.{Idx}
use Rattle.graph_base.specs.Edges.{IsInRange, row}
use Rattle.graph_base.specs.Reach.{IsAcyclic}
use Rattle.graph_base.specs.Kept.{IsClosed, is_named, kept_below, kept_rows}
use Rattle.crate_graph.proofs.GraphLemmas.{length-edges}
use Rattle.crate_graph_values.specs.declared.builder.CrateBuilder.{CrateBuilder}
use Rattle.crate_graph_values.specs.declared.crate_data.CrateTag.{CrateTag}
use Rattle.crate_graph_values.specs.declared.crate_data.Dependency.{Dependency}
use Rattle.crate_graph.specs.Graph.{IsWellMadeGraph, edges, dependency_row, target_of}
use Rattle.crate_graph_values.specs.Laws.{HasCleanMacroDirectory, renamed_dependency}
use Rattle.crate_graph.specs.Suborder.{new_number}
use Rattle.crate_graph.specs.Prune.{Stays, kept_crates, renumbered_crate, renumbered_id, number_after_prune}

-- each number of a list is named by it
pub named_at : (keep : List ℕ) (k n : ℕ) → k < length keep → get_or keep k 0 ≡ n → is_named keep n ≡ true
named_at keep k n within is = list_any_at (λ m. m == n) keep k 0 within (eq-eqb (get_or keep k 0) n is)

-- a number that is named has a place in the list
pub named_place : (keep : List ℕ) (n : ℕ) → is_named keep n ≡ true → (k : ℕ) × (k < length keep) × (get_or keep k 0 ≡ n)
named_place [] n is = absurd (false≢true is)
named_place (m ∷ ms) n is = elim (cases_eq m n) [
  | inl here ↦ (0, omega arith, here)
  | inr other ↦
      let later : is_named ms n ≡ true = sym (ap (λ b. b || is_named ms n) (ne_eqb m n other)) ∙ is in
      let at = named_place ms n later in
      (suc at.0, omega (arith, at.1), at.2)
]

pub or_false : (x y : Bool) → y ≡ false → (x || y) ≡ x
or_false true y is = refl
or_false false y is = is

-- a search among typed numbers is one among numbers
pub any_named : (eq : Idx CrateTag → Idx CrateTag → Bool) → ((x y : Idx CrateTag) → eq x y ≡ (number_of x == number_of y)) → (ids : List (Idx CrateTag)) (id : Idx CrateTag) → list_any (λ y. eq y id) ids ≡ is_named (map number_of ids) (number_of id)
any_named eq tells [] id = refl
any_named eq tells (x ∷ xs) id =
    ap (λ b. b || list_any (λ y. eq y id) xs) (tells x id) ∙ ap (λ b. (number_of x == number_of id) || b) (any_named eq tells xs id)

-- a list that passes a test, by its items
pub pass_at : (p : ℕ → Bool) (xs : List ℕ) (x : ℕ) → list_all p xs ≡ true → Contains xs x → p x ≡ true
pass_at p xs x all at = elim (cases_Bool (p x)) [
  | inl pass ↦ pass
  | inr fail ↦ absurd (false≢true (sym (list_all_at p xs at.0 x at.1 (ap p at.2 ∙ fail)) ∙ all))
]

pub pass_from : (p : ℕ → Bool) (xs : List ℕ) → ((x : ℕ) → Contains xs x → p x ≡ true) → list_all p xs ≡ true
pass_from p [] each = refl
pass_from p (x ∷ xs) each =
    and_from (p x) (list_all p xs) (each x (0, omega arith, refl)) (pass_from p xs (λ y at. each y (suc at.0, omega (arith, at.1), at.2)))

-- one more dependency, which is named or not
module _ (keep : List ℕ) (deps : List (Dependency (Idx CrateTag))) (k : ℕ) (d : Dependency (Idx CrateTag)) (within : k < length deps) (at : d ≡ get_or deps k d) where
  pub pass_more : is_named keep (target_of d) ≡ true → list_all (λ dep. is_named keep (target_of dep)) (take k deps) ≡ true → list_all (λ dep. is_named keep (target_of dep)) (take (k + 1) deps) ≡ true
  pass_more is so_far =
      let p : Dependency (Idx CrateTag) → Bool = λ dep. is_named keep (target_of dep) in
      list_all_more (λ dep. is_named keep (target_of dep)) deps k d within ∙ and_from (list_all p (take k deps)) (p (get_or deps k d)) so_far (sym (ap p at) ∙ is)

  pub fails_at : is_named keep (target_of d) ≡ false → list_all (is_named keep) (map target_of deps) ≡ false
  fails_at is =
      let p : Dependency (Idx CrateTag) → Bool = λ dep. is_named keep (target_of dep) in
      list_all-map (is_named keep) target_of deps ∙ list_all_at (λ dep. is_named keep (target_of dep)) deps k d within (sym (ap p at) ∙ is)

-- one more mark
pub marks_more : (keep : List ℕ) (marks : List Bool) (i x count : ℕ) → i < length keep → get_or keep i 0 ≡ x → x < count → length marks ≡ count
    → ((n : ℕ) → n < count → get_or marks n false ≡ is_named (take i keep) n) → (n : ℕ) → n < count → get_or (set marks x true) n false ≡ is_named (take (i + 1) keep) n
marks_more keep marks i x count within is below long marked n short =
    let more : is_named (take (i + 1) keep) n ≡ (is_named (take i keep) n || (get_or keep i 0 == n)) = list_any_more (λ m. m == n) keep i 0 within in
    elim (cases_eq n x) [
      | inl same ↦
          let here : (get_or keep i 0 == n) ≡ true = eq-eqb (get_or keep i 0) n (is ∙ sym same) in
          let there : x < length marks = omega (arith, below, long) in
          ap (λ m. get_or (set marks x true) m false) same ∙ get_or-set_same marks x true false there ∙ sym (more ∙ or_right (is_named (take i keep) n) (get_or keep i 0 == n) here)
      | inr other ↦
          let apart : (get_or keep i 0 == n) ≡ false = ne_eqb (get_or keep i 0) n (λ e. other (sym e ∙ is)) in
          get_or-set_other marks x n true false other ∙ marked n short ∙ sym (more ∙ or_false (is_named (take i keep) n) (get_or keep i 0 == n) apart)
    ]

-- one more new number
module _ (keep : List ℕ) (ids : List (Option (Idx CrateTag))) (k : ℕ) (ids_are : map (option_map number_of) ids ≡ map (new_number keep) (range_with_len 0 k)) where
  ids_more : (o : Option (Idx CrateTag)) → option_map number_of o ≡ new_number keep k → map (option_map number_of) (ids ++ o ∷ []) ≡ map (new_number keep) (range_with_len 0 (k + 1))
  ids_more o is =
      map_push (option_map number_of) ids o ∙ ap (λ xs. xs ++ option_map number_of o ∷ []) ids_are ∙ ap (λ x. map (new_number keep) (range_with_len 0 k) ++ x ∷ []) is
      ∙ sym (map-range_with_len_more (new_number keep) 0 k k (omega arith))

  pub ids_more-named : (id : Idx CrateTag) → is_named keep k ≡ true → number_of id ≡ kept_below keep k → map (option_map number_of) (ids ++ Some id ∷ []) ≡ map (new_number keep) (range_with_len 0 (k + 1))
  ids_more-named id named is = ids_more (Some id) (ap Some is ∙ sym (ap (λ b. cond b (Some (kept_below keep k)) None) named))

  pub ids_more-other : is_named keep k ≡ false → map (option_map number_of) (ids ++ None ∷ []) ≡ map (new_number keep) (range_with_len 0 (k + 1))
  ids_more-other other = ids_more None (sym (ap (λ b. cond b (Some (kept_below keep k)) None) other))

-- a list is closed where each of its crates stays
pub closed_from : (g : List (List ℕ)) (keep : List ℕ) → ((k : ℕ) → k < length keep → Stays g keep (get_or keep k 0)) → IsClosed g keep
closed_from g keep all = record {
  known = λ n is.
      let at = named_place keep n is in
      let stays : Stays g keep n = subst (Stays g keep) at.2 (all at.0 at.1) in
      stays.known;
  closed = λ a b is e.
      let at = named_place keep a is in
      let stays : Stays g keep a = subst (Stays g keep) at.2 (all at.0 at.1) in
      stays.closed b e;
}

pub stays_from : (g : List (List ℕ)) (keep : List ℕ) (n : ℕ) → IsClosed g keep → is_named keep n ≡ true → Stays g keep n
stays_from g keep n whole is = record { known = whole.known n is; closed = λ b e. whole.closed n b is e }

same_some : (o : Option (Idx CrateTag)) → is_some o ≡ is_some (option_map number_of o)
same_some None = refl
same_some (Some id) = refl

some_number : (keep : List ℕ) (n : ℕ) → is_some (new_number keep n) ≡ is_named keep n
some_number keep n = elim (is_named keep n) as (λ b. is_some (cond b (Some (kept_below keep n)) None) ≡ b) [ true ↦ refl | false ↦ refl ]

-- what a list of new numbers says of a crate
module _ (keep : List ℕ) (ids : List (Option (Idx CrateTag))) (count : ℕ) (ids_are : map (option_map number_of) ids ≡ map (new_number keep) (range_with_len 0 count)) where
  pub length-ids : length ids ≡ count
  length-ids = sym (length-map ids (option_map number_of)) ∙ ap length ids_are ∙ length-map-range_with_len (new_number keep) 0 count

  pub id_at : (n : ℕ) → n < count → option_map number_of (slice_index_or ids n None) ≡ new_number keep n
  id_at n within =
      let there : n < length ids = omega (arith, within, length-ids) in
      sym (get_or-map (option_map number_of) ids n None None there) ∙ ap (λ xs. get_or xs n None) ids_are ∙ get_or-map-range_with_len (new_number keep) 0 count n n None within (omega arith)

  pub is_some-id : (n : ℕ) → n < count → is_some (slice_index_or ids n None) ≡ is_named keep n
  is_some-id n within = same_some (slice_index_or ids n None) ∙ ap is_some (id_at n within) ∙ some_number keep n

-- the new number of a crate, by the list of them
number_at-kept : (keep numbers : List ℕ) (count n : ℕ) → numbers ≡ map (kept_below keep) (range_with_len 0 count) → n < count → number_after_prune numbers n ≡ kept_below keep n
number_at-kept keep numbers count n are within =
    ap (λ ns. get_or ns n 0) are ∙ get_or-map-range_with_len (kept_below keep) 0 count n n 0 within (omega arith)

-- one more number
pub numbers_more-kept : (keep numbers : List ℕ) (k next : ℕ) → numbers ≡ map (kept_below keep) (range_with_len 0 k) → next ≡ kept_below keep k → numbers ++ next ∷ [] ≡ map (kept_below keep) (range_with_len 0 (k + 1))
numbers_more-kept keep numbers k next are is =
    ap (λ ns. ns ++ next ∷ []) are ∙ ap (λ n. map (kept_below keep) (range_with_len 0 k) ++ n ∷ []) is ∙ sym (map-range_with_len_more (kept_below keep) 0 k k (omega arith))

pub length-numbers : (keep numbers : List ℕ) (count : ℕ) → numbers ≡ map (kept_below keep) (range_with_len 0 count) → length numbers ≡ count
length-numbers keep numbers count are = ap length are ∙ length-map-range_with_len (kept_below keep) 0 count

-- a dependency on the crate of another number
abbrev renumbered_dep : ℕ → Dependency (Idx CrateTag) → Dependency (Idx CrateTag)
renumbered_dep n dep = record dep { crate_id = record dep.crate_id { raw = n } }

-- new names that agree on the dependencies
deps_same : (f g : ℕ → ℕ) (ds : List (Dependency (Idx CrateTag))) → ((n : ℕ) → Contains (map target_of ds) n → f n ≡ g n) → map (renamed_dependency (renumbered_id f)) ds ≡ map (renamed_dependency (renumbered_id g)) ds
deps_same f g [] agree = refl
deps_same f g (d ∷ ds) agree =
    let here : f (target_of d) ≡ g (target_of d) = agree (target_of d) (0, omega arith, refl) in
    let later = deps_same f g ds (λ n at. agree n (suc at.0, omega (arith, at.1), at.2)) in
    ap (λ n. renumbered_dep n d ∷ map (renamed_dependency (renumbered_id f)) ds) here ∙ ap (λ more. renamed_dependency (renumbered_id g) d ∷ more) later

pub renumbered_same : (f g : ℕ → ℕ) (krate : CrateBuilder) → ((n : ℕ) → Contains (dependency_row krate) n → f n ≡ g n) → renumbered_crate f krate ≡ renumbered_crate g krate
renumbered_same f g krate agree =
    ap (λ ds. record krate { basic = record krate.basic { dependencies = ds } }) (deps_same f g krate.basic.dependencies agree)

row_get : (crates : List CrateBuilder) (i : ℕ) (krate : CrateBuilder) → i < length crates → krate ≡ get_or crates i krate → row (edges crates) i ≡ dependency_row krate
row_get crates i krate within at = get_or-map dependency_row crates i krate [] within ∙ ap dependency_row (sym at)

-- a crate that is kept depends on crates that are kept
module _ (keep : List ℕ) (crates : List CrateBuilder) (ids : List (Option (Idx CrateTag))) (whole : IsClosed (edges crates) keep) (ids_are : map (option_map number_of) ids ≡ map (new_number keep) (range_with_len 0 (length crates)))
    (k : ℕ) (krate : CrateBuilder) (within : k < length crates) (at : krate ≡ get_or crates k krate) (some : is_some (slice_index_or ids k None) ≡ true) where
  pub named_here : is_named keep k ≡ true
  named_here = sym (is_some-id keep ids (length crates) ids_are k within) ∙ some

  named_all : (n : ℕ) → Contains (dependency_row krate) n → is_named keep n ≡ true
  named_all n c = whole.closed k n named_here (subst (λ r. Contains r n) (sym (row_get crates k krate within at)) c)

  known_all : (n : ℕ) → Contains (dependency_row krate) n → n < length crates
  known_all n c = omega (arith, whole.known n (named_all n c), length-edges crates)

  pub renumbered_kept : (numbers : List ℕ) → numbers ≡ map (kept_below keep) (range_with_len 0 (length crates)) → renumbered_crate (number_after_prune numbers) krate ≡ renumbered_crate (kept_below keep) krate
  renumbered_kept numbers are = renumbered_same (number_after_prune numbers) (kept_below keep) krate (λ n c. number_at-kept keep numbers (length crates) n are (known_all n c))

-- one step over the crates
module _ (keep : List ℕ) (crates done whole : List CrateBuilder) (k : ℕ) (c : CrateBuilder) (within : k < length crates) (at : c ≡ get_or crates k c) (so_far : done ++ kept_crates keep k (drop k crates) ≡ whole) where
  left : drop k crates ≡ c ∷ drop (k + 1) crates
  left = drop_more crates k c within ∙ ap (λ x. x ∷ drop (k + 1) crates) (sym at)

  abbrev rest : List CrateBuilder
  rest = kept_crates keep (k + 1) (drop (k + 1) crates)

  step : done ++ kept_crates keep k (drop k crates) ≡ done ++ cond (is_named keep k) (renumbered_crate (kept_below keep) c ∷ rest) rest
  step = ap (λ cs. done ++ kept_crates keep k cs) left ∙ ap (λ n. done ++ cond (is_named keep k) (renumbered_crate (kept_below keep) c ∷ kept_crates keep n (drop (k + 1) crates)) (kept_crates keep n (drop (k + 1) crates))) (sym (add-one k))

  pub kept_more : is_named keep k ≡ true → (done ++ renumbered_crate (kept_below keep) c ∷ []) ++ kept_crates keep (k + 1) (drop (k + 1) crates) ≡ whole
  kept_more is =
      append_assoc done (renumbered_crate (kept_below keep) c ∷ []) rest
      ∙ sym (step ∙ ap (λ b. done ++ cond b (renumbered_crate (kept_below keep) c ∷ rest) rest) is)
      ∙ so_far

  pub kept_skip : is_named keep k ≡ false → done ++ kept_crates keep (k + 1) (drop (k + 1) crates) ≡ whole
  kept_skip is = sym (step ∙ ap (λ b. done ++ cond b (renumbered_crate (kept_below keep) c ∷ rest) rest) is) ∙ so_far

-- the edges of the crates that are kept
row_moved : (f : ℕ → ℕ) (ds : List (Dependency (Idx CrateTag))) → map target_of (map (renamed_dependency (renumbered_id f)) ds) ≡ map f (map target_of ds)
row_moved f [] = refl
row_moved f (d ∷ ds) = ap (λ ns. f (target_of d) ∷ ns) (row_moved f ds)

edges_from : (keep : List ℕ) (n : ℕ) (crates : List CrateBuilder) → edges (kept_crates keep n crates) ≡ kept_rows keep n (edges crates)
edges_from keep n [] = refl
edges_from keep n (c ∷ cs) =
    let later = edges_from keep (suc n) cs in
    elim (is_named keep n) as (λ b. edges (cond b (renumbered_crate (kept_below keep) c ∷ kept_crates keep (suc n) cs) (kept_crates keep (suc n) cs)) ≡ cond b (map (kept_below keep) (dependency_row c) ∷ kept_rows keep (suc n) (edges cs)) (kept_rows keep (suc n) (edges cs))) [
      | true ↦ ap (λ r. r ∷ edges (kept_crates keep (suc n) cs)) (row_moved (kept_below keep) c.basic.dependencies) ∙ ap (λ rs. map (kept_below keep) (dependency_row c) ∷ rs) later
      | false ↦ later
    ]

fewer_from : (keep : List ℕ) (n : ℕ) (crates : List CrateBuilder) → length (kept_crates keep n crates) ≤ length crates
fewer_from keep n [] = omega arith
fewer_from keep n (c ∷ cs) =
    let later = fewer_from keep (suc n) cs in
    elim (is_named keep n) as (λ b. length (cond b (renumbered_crate (kept_below keep) c ∷ kept_crates keep (suc n) cs) (kept_crates keep (suc n) cs)) ≤ suc (length cs)) [ true ↦ omega (arith, later) | false ↦ omega (arith, later) ]

-- the paths of the crates that are kept are clean
clean_from : (keep : List ℕ) (n : ℕ) (crates : List CrateBuilder) → All (λ krate. HasCleanMacroDirectory krate.basic) crates → All (λ krate. HasCleanMacroDirectory krate.basic) (kept_crates keep n crates)
clean_from keep n [] clean = All-nil (λ (krate : CrateBuilder). HasCleanMacroDirectory krate.basic)
clean_from keep n (c ∷ cs) clean =
    let later = clean_from keep (suc n) cs (All-tail (λ (krate : CrateBuilder). HasCleanMacroDirectory krate.basic) c cs clean) in
    let here : HasCleanMacroDirectory c.basic = All-head (λ (krate : CrateBuilder). HasCleanMacroDirectory krate.basic) c cs clean in
    elim (is_named keep n) as (λ b. All (λ (krate : CrateBuilder). HasCleanMacroDirectory krate.basic) (cond b (renumbered_crate (kept_below keep) c ∷ kept_crates keep (suc n) cs) (kept_crates keep (suc n) cs))) [
      | true ↦ All-cons (λ (krate : CrateBuilder). HasCleanMacroDirectory krate.basic) (renumbered_crate (kept_below keep) c) (kept_crates keep (suc n) cs) here later
      | false ↦ later
    ]

pub edges-kept : (keep : List ℕ) (crates : List CrateBuilder) → edges (kept_crates keep 0 crates) ≡ kept_rows keep 0 (edges crates)
edges-kept keep crates = edges_from keep 0 crates

pub well_made-kept : (old new : List CrateBuilder) (keep : List ℕ) (limit : ℕ) → new ≡ kept_crates keep 0 old → IsWellMadeGraph old limit → IsInRange (kept_rows keep 0 (edges old)) → IsAcyclic (kept_rows keep 0 (edges old)) → IsWellMadeGraph new limit
well_made-kept old new keep limit is made in_range acyclic =
    let same : edges new ≡ kept_rows keep 0 (edges old) = ap edges is ∙ edges_from keep 0 old in
    record {
      fits = made.fits;
      within = omega (arith, made.within, ap length is, fewer_from keep 0 old);
      in_range = subst IsInRange (sym same) in_range;
      acyclic = subst IsAcyclic (sym same) acyclic;
      clean = subst (All (λ krate. HasCleanMacroDirectory krate.basic)) (sym is) (clean_from keep 0 old made.clean);
    }
