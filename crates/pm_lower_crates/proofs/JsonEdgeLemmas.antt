-- The wanted edges of a document: without their ranks they are those that are gathered, they lie between rows, and their ranks ascend.
use Rattle.std.proofs.Common.{◌≡◌, ℕ, ◌<◌, ◌≤◌, List, [], ◌∷◌, ◌++◌, map, length, Option, Some, None, refl, sym, ap, ◌∙◌, arith}
use Rattle.std.specs.List.{All, flat_map}
use Rattle.std.specs.Option.{option_map, option_to_list}
use Rattle.std.proofs.lemmas.List.{append-nil, map-append}
use Rattle.std.proofs.lemmas.List.Concat.{flat_map-append}
use Rattle.std.proofs.lemmas.List.Elements.{All-append, All-nil, All-cons}
use Rattle.pm_json.specs.declared.dep.Dep.{Dep}
use Rattle.pm_lower_crates.specs.Front.{IsPublicIn}
use Rattle.pm_lower_crates.specs.Keeping.{StartBehind}
use Rattle.pm_lower_crates.specs.KeptEdges.{IsWithinRows}
use Rattle.pm_lower_crates.specs.Ranks.{AreInOrder}
use Rattle.pm_lower_crates.specs.WantedEdges.{Edge, Public, RankedEdge, edge, to_macros, to_public, unranked, with_rank}
use Rattle.pm_lower_crates.proofs.RankLemmas.{HasKey, IsShort, all_by_place, apart_below, by_place_order, earlier_keys, in_order_append, later_keys, ranked_all, short_order}
use Rattle.pm_lower_crates.proofs.UnrankedLemmas.{map_by_place, map_each, without_rank}
use Rattle.pm_lower_crates.proofs.WithinLemmas.{all_flat, all_flat_any, known_macros, macros_behind, macros_within, public_behind, public_within}
use Rattle.pm_lower_crates.specs.JsonGathering.{json_edges_among, json_edges_from}
use Rattle.pm_lower_crates.specs.JsonRows.{JsonRow, json_row_at, rows_among}
use Rattle.pm_lower_crates.specs.JsonWantedEdges.{dependency_edges, edges_of_row, json_library_edges, json_ranked_edges, json_to_libraries, to_row}
use Rattle.pm_lower_crates.proofs.JsonRowLemmas.{all_at}

-- ---- without ranks

flat_flat : {A B C : Type 0} (f : B → List C) (g : A → List B) (xs : List A) → flat_map (λ x. flat_map f (g x)) xs ≡ flat_map f (flat_map g xs)
flat_flat f g [] = refl
flat_flat f g (x ∷ xs) = ap (λ ys. flat_map f (g x) ++ ys) (flat_flat f g xs) ∙ sym (flat_map-append f (g x) (flat_map g xs))

same_map : (xs : List Edge) → map (λ (e : Edge). e) xs ≡ xs
same_map [] = refl
same_map (x ∷ xs) = ap (λ ys. x ∷ ys) (same_map xs)

abbrev edge_of : RankedEdge → Edge
edge_of r = r.edge

module _ (public : Public) (rows : List (Option JsonRow)) where
  libraries_unranked : (q c : ℕ) (row : JsonRow) → map edge_of (json_library_edges q public c row) ≡ json_to_libraries public row
  libraries_unranked q c row =
      map_by_place edge_of (λ i (e : Edge). with_rank (q ∷ 1 ∷ c ∷ i ∷ []) (e ∷ [])) (λ (e : Edge). e ∷ []) (λ i e. refl) 0 (json_to_libraries public row)
      ∙ map_each (λ (e : Edge). e) (json_to_libraries public row) ∙ same_map (json_to_libraries public row)

  dependencies_unranked : (q c : ℕ) (row : JsonRow) → map edge_of (dependency_edges q public rows c row) ≡ flat_map (to_row rows row) row.of.deps
  dependencies_unranked q c row =
      map_by_place edge_of (λ i (dep : Dep). with_rank (q ∷ 1 ∷ c ∷ i ∷ []) (to_row rows row dep)) (to_row rows row)
      (λ i dep. without_rank (q ∷ 1 ∷ c ∷ i ∷ []) (to_row rows row dep)) (length (json_to_libraries public row)) row.of.deps

  row_unranked : (q c : ℕ) (o : Option JsonRow) → map edge_of (edges_of_row q public rows c o) ≡ flat_map (json_edges_from public rows) (option_to_list o)
  unfolding edges_of_row
  row_unranked q c None = refl
  row_unranked q c (Some row) =
      map-append edge_of (json_library_edges q public c row) (dependency_edges q public rows c row)
      ∙ ap (λ es. es ++ map edge_of (dependency_edges q public rows c row)) (libraries_unranked q c row)
      ∙ ap (λ es. json_to_libraries public row ++ es) (dependencies_unranked q c row) ∙ sym (append-nil (json_edges_from public rows row))

  -- what rows want is what is gathered of them
  pub wanted_are_gathered : (q : ℕ) → unranked (json_ranked_edges q public rows) ≡ json_edges_among public rows
  wanted_are_gathered q =
      map_by_place edge_of (edges_of_row q public rows) (λ o. flat_map (json_edges_from public rows) (option_to_list o)) (row_unranked q) 0 rows
      ∙ flat_flat (json_edges_from public rows) option_to_list rows

-- ---- between rows

module _ (count : ℕ) (public : Public) (known : IsPublicIn count public) (rows : List (Option JsonRow)) (below : All (λ (r : JsonRow). r.number < count) (rows_among rows)) where
  found_within : (from : JsonRow) (name : List ℕ) → from.number < count → (o : Option JsonRow) → ((to : JsonRow) → o ≡ Some to → to.number < count)
      → All (IsWithinRows count) (option_to_list (option_map (λ (to : JsonRow). edge from.number name to.number) o))
  found_within from name source None target = All-nil (IsWithinRows count)
  found_within from name source (Some to) target = All-cons (IsWithinRows count) (edge from.number name to.number) [] (record { source = source; target = target to refl }) (All-nil (IsWithinRows count))

  row_within : (from : JsonRow) → from.number < count → All (IsWithinRows count) (json_edges_from public rows from)
  row_within from source =
      All-append (IsWithinRows count) (json_to_libraries public from) (flat_map (to_row rows from) from.of.deps)
      (All-append (IsWithinRows count) (map (to_public from.number) public.rows) (to_macros public.macros from.number from.of.is_proc_macro)
      (public_within count public.rows known.rows from.number source)
      (macros_within count public.macros (known_macros count public known) from.number from.of.is_proc_macro source))
      (all_flat_any (IsWithinRows count) (to_row rows from)
      (λ dep. found_within from dep.name source (json_row_at rows dep.krate.0) (λ to is. all_at (λ (r : JsonRow). r.number < count) rows dep.krate.0 to below is)) from.of.deps)

  -- each wanted edge is between rows, or leads from a row to a public one before them
  pub wanted_within : All (IsWithinRows count) (json_edges_among public rows)
  wanted_within = all_flat (IsWithinRows count) (json_edges_from public rows) (λ (r : JsonRow). r.number < count) row_within (rows_among rows) below

module _ (n : ℕ) (public : Public) (rows : List (Option JsonRow)) where
  abbrev Behind : Edge → Type 0
  Behind e = n ≤ e.source

  found_behind : (from : JsonRow) (name : List ℕ) → n ≤ from.number → (o : Option JsonRow) → All Behind (option_to_list (option_map (λ (to : JsonRow). edge from.number name to.number) o))
  found_behind from name source None = All-nil Behind
  found_behind from name source (Some to) = All-cons Behind (edge from.number name to.number) [] source (All-nil Behind)

  row_behind : (from : JsonRow) → n ≤ from.number → All Behind (json_edges_from public rows from)
  row_behind from source =
      All-append Behind (json_to_libraries public from) (flat_map (to_row rows from) from.of.deps)
      (All-append Behind (map (to_public from.number) public.rows) (to_macros public.macros from.number from.of.is_proc_macro)
      (public_behind n public.rows from.number source) (macros_behind n public.macros from.number from.of.is_proc_macro source))
      (all_flat_any Behind (to_row rows from) (λ dep. found_behind from dep.name source (json_row_at rows dep.krate.0)) from.of.deps)

  -- each wanted edge leads from a row
  pub wanted_behind : All (λ (r : JsonRow). n ≤ r.number) (rows_among rows) → StartBehind n (json_edges_among public rows)
  wanted_behind above = all_flat Behind (json_edges_from public rows) (λ (r : JsonRow). n ≤ r.number) row_behind (rows_among rows) above

-- ---- in the order of their ranks

module _ (q : ℕ) (public : Public) (rows : List (Option JsonRow)) where
  short_row : (from : JsonRow) (name : List ℕ) (o : Option JsonRow) → IsShort (option_to_list (option_map (λ (to : JsonRow). edge from.number name to.number) o))
  short_row from name None = tt
  short_row from name (Some to) = tt

  abbrev library_at : ℕ → ℕ → Edge → List RankedEdge
  library_at c i e = with_rank (q ∷ 1 ∷ c ∷ i ∷ []) (e ∷ [])

  abbrev dependency_at : ℕ → JsonRow → ℕ → Dep → List RankedEdge
  dependency_at c row i dep = with_rank (q ∷ 1 ∷ c ∷ i ∷ []) (to_row rows row dep)

  library_keys : (c i : ℕ) (e : Edge) → All (λ w. HasKey (q ∷ 1 ∷ c ∷ []) i w.rank) (library_at c i e)
  library_keys c i e = ranked_all (HasKey (q ∷ 1 ∷ c ∷ []) i) (q ∷ 1 ∷ c ∷ i ∷ []) (e ∷ []) (record { rest = []; is = refl })

  dep_keys : (c : ℕ) (row : JsonRow) (d : ℕ) (dep : Dep) → All (λ w. HasKey (q ∷ 1 ∷ c ∷ []) d w.rank) (dependency_at c row d dep)
  dep_keys c row d dep = ranked_all (HasKey (q ∷ 1 ∷ c ∷ []) d) (q ∷ 1 ∷ c ∷ d ∷ []) (to_row rows row dep) (record { rest = []; is = refl })

  row_keys : (c : ℕ) (o : Option JsonRow) → All (λ w. HasKey (q ∷ 1 ∷ []) c w.rank) (edges_of_row q public rows c o)
  unfolding edges_of_row
  row_keys c None = All-nil (λ (w : RankedEdge). HasKey (q ∷ 1 ∷ []) c w.rank)
  row_keys c (Some row) =
      let Keyed : RankedEdge → Type 0 = λ w. HasKey (q ∷ 1 ∷ []) c w.rank in
      All-append Keyed (json_library_edges q public c row) (dependency_edges q public rows c row)
      (all_by_place Keyed (library_at c) (λ i e. ranked_all (HasKey (q ∷ 1 ∷ []) c) (q ∷ 1 ∷ c ∷ i ∷ []) (e ∷ []) (record { rest = i ∷ []; is = refl })) 0 (json_to_libraries public row))
      (all_by_place Keyed (dependency_at c row) (λ d dep. ranked_all (HasKey (q ∷ 1 ∷ []) c) (q ∷ 1 ∷ c ∷ d ∷ []) (to_row rows row dep) (record { rest = d ∷ []; is = refl }))
      (length (json_to_libraries public row)) row.of.deps)

  row_order : (c : ℕ) (o : Option JsonRow) → AreInOrder (edges_of_row q public rows c o)
  unfolding edges_of_row
  row_order c None = tt
  row_order c (Some row) =
      let prefix = q ∷ 1 ∷ c ∷ [] in
      let libraries = json_to_libraries public row in
      in_order_append (json_library_edges q public c row) (dependency_edges q public rows c row)
      (by_place_order prefix (library_at c) (library_keys c) (λ e. Unit {0}) (λ i e _. short_order (q ∷ 1 ∷ c ∷ i ∷ []) (e ∷ []) tt) 0 libraries (λ k d within. tt))
      (by_place_order prefix (dependency_at c row) (dep_keys c row) (λ dep. Unit {0})
      (λ d dep _. short_order (q ∷ 1 ∷ c ∷ d ∷ []) (to_row rows row dep) (short_row row dep.name (json_row_at rows dep.krate.0))) (length libraries) row.of.deps (λ k d within. tt))
      (apart_below prefix (length libraries) (json_library_edges q public c row) (dependency_edges q public rows c row)
      (earlier_keys prefix (library_at c) (library_keys c) (length libraries) 0 libraries (omega arith))
      (later_keys prefix (dependency_at c row) (dep_keys c row) (length libraries) (length libraries) row.of.deps (omega arith)))

  -- the ranks of what rows want ascend
  pub ranks_ascend : AreInOrder (json_ranked_edges q public rows)
  ranks_ascend = by_place_order (q ∷ 1 ∷ []) (edges_of_row q public rows) row_keys (λ o. Unit {0}) (λ c o _. row_order c o) 0 rows (λ k d within. tt)
