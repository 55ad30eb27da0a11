-- Once a graph is set in a database, the list names each crate once and after its dependencies, and the database has the crates of the
-- project.
use Rattle.std.proofs.Common.{◌≡◌, ◌⊎◌, ℕ, zero, suc, ◌<◌, ◌≤◌, inl, inr, ⊎_elim, Bool, true, false, List, [], ◌∷◌, ◌++◌, length, map, fold, take, Option, Some, None, Ok, refl, sym, ap, ◌∙◌, subst, arith, get_or, nat_eq, slice_get, eq-eqb, true≢false, if◌then◌else◌}
use Rattle.std.specs.BTreeMap as tree
use Rattle.std.specs.List.{AllByRecursion, Contains, IsDistinct, list_any}
use Rattle.std.specs.Option.{option_and_then, option_map}
use Rattle.std.specs.declared.cmp.Ordering.{Ordering}
use Rattle.std.proofs.lemmas.Cmp.{nat_eq_equiv}
use Rattle.std.proofs.lemmas.List.{get_or_default, length-map}
use Rattle.std.proofs.lemmas.Map.Keys.{IsDistinct-push}
use Rattle.std.proofs.lemmas.Option.{get_or_from_slice_get, same_Some, slice_get-get_or, slice_get-map, slice_get_within}
use Rattle.std.proofs.lemmas.Simd.{map-map}
use Rattle.graph_base.specs.Edges.{HasEdge}
use Rattle.graph_base.specs.Reach.{Reaches}
use Rattle.graph_base.specs.Reach.Reaches.{itself, further}
use Rattle.crate_graph_values.specs.Laws.{renamed_dependency}
use Rattle.crate_graph_values.specs.declared.builder.CrateBuilder.{CrateBuilder}
use Rattle.crate_graph_values.specs.declared.crate_data.CrateData.{CrateData}
use Rattle.crate_graph_values.specs.declared.crate_data.Dependency.{Dependency}
use Rattle.crate_graph.specs.Graph.{Graph, edges, dependency_row, target_of}
use Rattle.crate_graph.proofs.ExtendLemmas.{crate_edge, edge_crate}
use Rattle.crate_graph.proofs.GraphLemmas.{slice_get_some}
use Rattle.input_db.proofs.TableLemmas as rows
use Rattle.input_db.specs.Database.{Database}
use Rattle.crate_graph.specs.Extend.{Id}
use Rattle.input_db.specs.Identity.{Table, crate_edges, data_of, input_in, named_in, number_in}
use Rattle.input_db.specs.SetInDb.{IsSetInDb, first_places, with_member}
use Rattle.input_db.specs.declared.crate_input.CrateInput.{CrateInput}
use Rattle.live_page.proofs.GraphEntries.{below_crates, data_held, in_order}
use Rattle.live_page.proofs.Members.{first_places_all, first_places_from, holds_first, holds_further, mapped_from, mapped_to}
use Rattle.pm_lower_crates.specs.Lowering.{Crate, HasDep, crate_seen, dep_seen}
use Rattle.pm_lower_crates.specs.WantedEdges.{Dep}
use Rattle.vfs_core.specs.VfsPath.{PathContent}
use Rattle.live_project.specs.Crates.{project_lowered}
use Rattle.live_project.specs.Project.{ProjectContent}
use Rattle.live.specs.Crates.{AreInDatabase, LacksCyclesIn, ListsInOrder, ShowsProject, crate_held, crate_renamed, dep_held, input_at, database_number, renamed_dep}
use Rattle.live.specs.Refresh.{IsProjectGraph}

-- ---- lists

take-map : {X Y : Type 0} (f : X → Y) (n : ℕ) (xs : List X) → map f (take n xs) ≡ take n (map f xs)
take-map f zero xs = refl
take-map f (suc n) [] = refl
take-map f (suc n) (x ∷ xs) = ap (λ l. f x ∷ l) (take-map f n xs)

-- an item that stands before a place is among those before it
in-front : (xs : List ℕ) (place j n : ℕ) → j < place → place < length xs → get_or xs j 0 ≡ n → Contains (take place xs) n
in-front [] place j n less within is = absurd (omega (arith, within))
in-front (x ∷ xs) zero j n less within is = absurd (omega (arith, less))
in-front (x ∷ xs) (suc place) zero n less within is = subst (Contains (x ∷ take place xs)) is (holds_first x (take place xs))
in-front (x ∷ xs) (suc place) (suc j) n less within is = holds_further x n (take place xs) (in-front xs place j n (omega (arith, less)) (omega (arith, within)) is)

-- an item of a list stands at a place of it
found-in : (ns : List ℕ) (n : ℕ) → Contains ns n → (place : ℕ) × (place < length ns) × (slice_get ns place ≡ Some n)
found-in ns n there = (there.0, there.1, slice_get-get_or ns there.0 n there.1 ∙ ap Some there.2)

apart-at : (x : ℕ) (xs : List ℕ) → AllByRecursion (λ y. nat_eq x y ≡ false) xs → (place n : ℕ) → slice_get xs place ≡ Some n → x ≡ n → ⊥
apart-at x [] apart place n at same = cc
apart-at x (y ∷ xs) apart zero n at same = true≢false (sym (eq-eqb x y (same ∙ sym (same_Some y n at))) ∙ apart.0)
apart-at x (y ∷ xs) apart (suc place) n at same = apart-at x xs apart.1 place n at same

-- in a list without repeats an item stands at one place
once-place : (ns : List ℕ) → IsDistinct nat_eq ns → (i j n : ℕ) → slice_get ns i ≡ Some n → slice_get ns j ≡ Some n → i ≡ j
unfolding IsDistinct
once-place [] distinct i j n at other = cc
once-place (x ∷ xs) distinct zero zero n at other = refl
once-place (x ∷ xs) distinct zero (suc j) n at other = absurd (apart-at x xs distinct.0 j n other (same_Some x n at))
once-place (x ∷ xs) distinct (suc i) zero n at other = absurd (apart-at x xs distinct.0 i n at (same_Some x n other))
once-place (x ∷ xs) distinct (suc i) (suc j) n at other = ap suc (once-place xs distinct.1 i j n at other)

-- ---- a table of crates

-- an edge is a dependency of what is held
edge-input : (table : Table) (a b : ℕ) → HasEdge (crate_edges table) a b → (input : CrateInput) × (input_in table a ≡ Some input) × Contains (named_in input.crate_data) b
edge-input table a b edge =
    let from = rows.from_there table a edge.0 edge.1 in (from.0, from.1, subst (λ l. Contains l b) (rows.row_of table a from.0 from.1) edge)

input-edge : (table : Table) (a : ℕ) (input : CrateInput) (b : ℕ) → input_in table a ≡ Some input → Contains (named_in input.crate_data) b → HasEdge (crate_edges table) a b
input-edge table a input b is named = subst (λ l. Contains l b) (sym (rows.row_of table a input is)) named

input-found : (found : Option CrateInput) (content : CrateData ℕ) → option_map (λ i. i.crate_data) found ≡ Some content → (input : CrateInput) × (found ≡ Some input) × (input.crate_data ≡ content)
input-found None content is = cc
input-found (Some input) content is = (input, refl, same_Some input.crate_data content is)

-- a dependency that is held names its crate
dep-named : (deps : List (Dependency ℕ)) (dep : Dep) → Contains (map dep_held deps) dep → Contains (map (λ d. d.crate_id) deps) dep.target
dep-named deps dep there =
    let from = mapped_from dep_held deps dep there in
    subst (Contains (map (λ (d : Dependency ℕ). d.crate_id) deps)) (ap (λ (d : Dep). d.target) from.2) (mapped_to (λ (d : Dependency ℕ). d.crate_id) deps from.0 from.1)

-- ---- first places

-- no number is put twice
distinct-member : (n : ℕ) (ns : List ℕ) (is_known : Bool) → list_any (nat_eq n) ns ≡ is_known → IsDistinct nat_eq ns → IsDistinct nat_eq (if is_known then ns else ns ++ n ∷ [])
distinct-member n ns true known apart = apart
distinct-member n ns false known apart = IsDistinct-push nat_eq_equiv ns n apart known

distinct-placed : (front ns : List ℕ) → IsDistinct nat_eq front → IsDistinct nat_eq (fold with_member front ns)
distinct-placed front [] apart = apart
distinct-placed front (n ∷ ns) apart = distinct-placed (with_member front n) ns (distinct-member n front (list_any (nat_eq n) front) refl apart)

-- what a number needs stands before it, wherever it stands in a list: so it does where each number is put once
module _ (Needs : ℕ → ℕ → Type 0) where
  -- what each number needs stands before it
  abbrev InOrder : List ℕ → Type 0
  InOrder ns = (place n need : ℕ) → slice_get ns place ≡ Some n → Needs n need → (earlier : ℕ) × (earlier < place) × (slice_get ns earlier ≡ Some need)

  -- an item behind others
  last-place : (front : List ℕ) (n place m : ℕ) → slice_get (front ++ n ∷ []) place ≡ Some m
      → ((place < length front) × (slice_get front place ≡ Some m)) ⊎ ((place ≡ length front) × (n ≡ m))
  last-place [] n zero m at = inr (refl, same_Some n m at)
  last-place [] n (suc place) m at = cc
  last-place (x ∷ front) n zero m at = inl (omega arith, at)
  last-place (x ∷ front) n (suc place) m at =
      ⊎_elim (λ before. inl (omega (arith, before.0), before.1)) (λ last. inr (ap suc last.0, last.1)) (last-place front n place m at)

  front-place : (front : List ℕ) (n place m : ℕ) → slice_get front place ≡ Some m → slice_get (front ++ n ∷ []) place ≡ Some m
  front-place [] n place m at = cc
  front-place (x ∷ front) n zero m at = at
  front-place (x ∷ front) n (suc place) m at = front-place front n place m at

  order-member : (n : ℕ) (front : List ℕ) (is_known : Bool) → InOrder front → ((need : ℕ) → Needs n need → Contains front need) → InOrder (if is_known then front else front ++ n ∷ [])
  order-member n front true order needs place m need at wants = order place m need at wants
  order-member n front false order needs place m need at wants =
      ⊎_elim
      (λ before. let e = order place m need before.1 wants in (e.0, e.1, front-place front n e.0 need e.2))
      (λ last.
      let e = found-in front need (needs need (subst (λ k. Needs k need) (sym last.1) wants)) in
      (e.0, omega (arith, e.1, last.0), front-place front n e.0 need e.2))
      (last-place front n place m at)

  -- what each number of a list needs is put before it
  order-placed : (front ns : List ℕ) → InOrder front → ((place n need : ℕ) → slice_get ns place ≡ Some n → Needs n need → Contains (fold with_member front (take place ns)) need)
      → InOrder (fold with_member front ns)
  order-placed front [] order met = order
  order-placed front (n ∷ ns) order met =
      order-placed (with_member front n) ns
      (order-member n front (list_any (nat_eq n) front) order (λ need wants. met 0 n need refl wants))
      (λ place m need at wants. met (suc place) m need at wants)

  -- a list in which what each number needs stands before it, each number put once
  pub order_first : (ns : List ℕ) → ((place n need : ℕ) → slice_get ns place ≡ Some n → Needs n need → Contains (take place ns) need) → InOrder (first_places ns)
  order_first ns met =
      order-placed [] ns (λ place n need at. absurd (cc)) (λ place n need at wants. first_places_all (take place ns) need (met place n need at wants))

-- ---- a graph that is set in a database

module _ (cmp : Id → Id → Ordering) (crates : List CrateBuilder) (old new : Database) (ids : tree.BTreeMap Id ℕ) (set : IsSetInDb cmp crates old new ids) where
  abbrev order : List ℕ
  order = set.order

  abbrev numbers : List ℕ
  numbers = set.numbers

  -- the numbers in the order in which the crates are finished
  abbrev given : List ℕ
  given = map (λ m. get_or numbers m 0) order

  -- under the number of a crate the database holds the crate's data
  held-data : (m : ℕ) (krate : CrateBuilder) → slice_get crates m ≡ Some krate
      → option_map (λ input. input.crate_data) (input_in new.crates (get_or numbers m 0)) ≡ Some (data_of (number_in numbers) krate)
  held-data m krate at = data_held crates order numbers set.behind set.shared new.crates set.inputs m krate (slice_get_within crates m krate at) at

  -- a number needs the numbers that its data names
  abbrev Needs : ℕ → ℕ → Type 0
  Needs n need = (input : CrateInput) × (input_in new.crates n ≡ Some input) × Contains (named_in input.crate_data) need

  -- what is found is the input of the data
  input-data : (found : Option CrateInput) (content : CrateData ℕ) (input : CrateInput) → option_map (λ i. i.crate_data) found ≡ Some content → found ≡ Some input → input.crate_data ≡ content
  input-data None content input is at = cc
  input-data (Some other) content input is at = let same : other ≡ input = cc in ap (λ i. i.crate_data) (sym same) ∙ same_Some other.crate_data content is

  -- the data of a crate names the numbers of its targets
  names-targets : (krate : CrateBuilder) → named_in (data_of (number_in numbers) krate) ≡ map (λ target. get_or numbers target 0) (dependency_row krate)
  names-targets krate =
      map-map (λ (dep : Dependency ℕ). dep.crate_id) (renamed_dependency (number_in numbers)) krate.basic.dependencies
      ∙ sym (map-map (λ target. get_or numbers target 0) target_of krate.basic.dependencies)

  -- so what the number at a place of the order needs stands before it
  needs-met : (place n need : ℕ) → slice_get given place ≡ Some n → Needs n need → Contains (take place given) need
  needs-met place n need at wants =
      let within : place < length order = omega (arith, slice_get_within given place n at, length-map order (λ m. get_or numbers m 0)) in
      let m : ℕ = get_or order place 0 in
      let of : get_or numbers m 0 ≡ n =
      same_Some (get_or numbers m 0) n (sym (slice_get-map (λ k. get_or numbers k 0) order place ∙ ap (option_map (λ k. get_or numbers k 0)) (slice_get-get_or order place 0 within)) ∙ at) in
      let krate = slice_get_some crates m (below_crates crates order numbers set.behind m (place, within, get_or_default order place m 0 within)) in
      let content : wants.0.crate_data ≡ data_of (number_in numbers) krate.0 =
      input-data (input_in new.crates n) (data_of (number_in numbers) krate.0) wants.0 (ap (λ k. option_map (λ i. i.crate_data) (input_in new.crates k)) (sym of) ∙ held-data m krate.0 krate.1) wants.1 in
      let named = mapped_from (λ target. get_or numbers target 0) (dependency_row krate.0) need (subst (λ l. Contains l need) (ap named_in content ∙ names-targets krate.0) wants.2) in
      let before = set.behind.behind place named.0 within (crate_edge crates m named.0 krate.0 krate.1 named.1) in
      subst (λ l. Contains l need) (take-map (λ k. get_or numbers k 0) place order)
      (subst (Contains (map (λ k. get_or numbers k 0) (take place order))) named.2
      (mapped_to (λ k. get_or numbers k 0) (take place order) named.0 (in-front order place before.0 named.0 before.1 within before.2)))

  -- the list names each crate once and after those that it depends on
  pub lists_in_order : ListsInOrder new
  unfolding IsDistinct
  lists_in_order = record {
    once = subst (IsDistinct nat_eq) (sym set.listed) (distinct-placed [] given tt);
    behind = λ place krate dep input at held named.
        let found = order_first Needs given needs-met place krate dep (subst (λ l. slice_get l place ≡ Some krate) set.listed at) (input, held, named) in
        (found.0, found.1, subst (λ l. slice_get l found.0 ≡ Some dep) (sym set.listed) found.2);
  }

  -- ---- the crates of a project

  module _ (p : ProjectContent) (files : List (ℕ × PathContent)) (graph : Graph) (same : graph.crates ≡ crates) (is : IsProjectGraph p files graph) where
    -- a crate of the project is one of the graph
    seen-at : (place : ℕ) (krate : Crate) → slice_get (map crate_seen crates) place ≡ Some krate → (builder : CrateBuilder) × (slice_get crates place ≡ Some builder) × (krate ≡ crate_seen builder)
    seen-at place krate at = by (slice_get crates place) refl
      where
        by : (found : Option CrateBuilder) → slice_get crates place ≡ found → (builder : CrateBuilder) × (slice_get crates place ≡ Some builder) × (krate ≡ crate_seen builder)
        by None none = let both : option_map crate_seen None ≡ Some krate = sym (slice_get-map crate_seen crates place ∙ ap (option_map crate_seen) none) ∙ at in absurd (cc)
        by (Some builder) found = (builder, found, same_Some krate (crate_seen builder) (sym at ∙ slice_get-map crate_seen crates place ∙ ap (option_map crate_seen) found))

    -- the number of a crate
    number-of : (place : ℕ) (builder : CrateBuilder) → slice_get crates place ≡ Some builder → slice_get numbers place ≡ Some (get_or numbers place 0)
    number-of place builder at = slice_get-get_or numbers place 0 (omega (arith, slice_get_within crates place builder at, set.every))

    held-deps : (deps : List (Dependency Id)) → map dep_held (map (renamed_dependency (number_in numbers)) deps) ≡ map (renamed_dep numbers) (map dep_seen deps)
    held-deps [] = refl
    held-deps (dep ∷ deps) = ap (λ l. renamed_dep numbers (dep_seen dep) ∷ l) (held-deps deps)

    held-by-data : (found : Option CrateInput) (content : CrateData ℕ) → option_map (λ input. input.crate_data) found ≡ Some content
        → option_map crate_held found ≡ Some (content.root_file_id, map dep_held content.dependencies)
    held-by-data None content is = cc
    held-by-data (Some input) content is = let is_data : input.crate_data ≡ content = same_Some input.crate_data content is in ap (λ (d : CrateData ℕ). Some (d.root_file_id, map dep_held d.dependencies)) is_data

    held-crate : (place : ℕ) (builder : CrateBuilder) → slice_get crates place ≡ Some builder
        → option_map crate_held (input_at new.crates numbers place) ≡ Some (crate_renamed numbers (crate_seen builder))
    held-crate place builder at =
        ap (λ found. option_map crate_held (option_and_then (input_in new.crates) found)) (number-of place builder at)
        ∙ held-by-data (input_in new.crates (get_or numbers place 0)) (data_of (number_in numbers) builder) (held-data place builder at)
        ∙ ap (λ deps. Some (builder.basic.root_file_id, deps)) (held-deps builder.basic.dependencies)

    pub are_listed : AreInDatabase new numbers (map crate_seen crates)
    are_listed = record {
      every = set.every ∙ sym (length-map crates crate_seen);
      listed = λ krate. (
        λ there.
            let from = mapped_from (λ m. get_or numbers m 0) order krate (first_places_from given krate (subst (λ l. Contains l krate) set.listed there)) in
            let within : from.0 < length numbers = omega (arith, below_crates crates order numbers set.behind from.0 from.1, set.every) in
            (from.0, within, get_or_default numbers from.0 krate 0 within ∙ from.2),
        λ there.
            let m = there.0 in
            let inside = in_order crates order numbers set.behind m (omega (arith, there.1, set.every)) in
            subst (λ l. Contains l krate) (sym set.listed) (first_places_all given krate
            (subst (Contains given) (get_or_default numbers m 0 krate there.1 ∙ there.2) (mapped_to (λ k. get_or numbers k 0) order m inside))),
      );
      held = λ place krate at.
          let seen = seen-at place krate at in held-crate place seen.0 seen.1 ∙ ap (λ k. Some (crate_renamed numbers k)) (sym seen.2);
    }

    -- ---- missing edges

    -- what a listed crate depends on is listed before it
    step-back : (place a c : ℕ) → slice_get new.listed place ≡ Some a → HasEdge (crate_edges new.crates) a c → (earlier : ℕ) × (earlier < place) × (slice_get new.listed earlier ≡ Some c)
    step-back place a c at edge =
        let from = edge-input new.crates a c edge in
        lists_in_order.behind place a c from.0 at from.1 from.2

    -- from a listed crate one comes to listed crates alone, none of which stands behind it
    reach-back : {a b : ℕ} → (place : ℕ) → slice_get new.listed place ≡ Some a → Reaches (crate_edges new.crates) a b → (earlier : ℕ) × (earlier ≤ place) × (slice_get new.listed earlier ≡ Some b)
    reach-back place at itself = (place, omega arith, at)
    reach-back place at (further edge rest) =
        let first = step-back place _ _ at edge in
        let later = reach-back first.0 first.2 rest in
        (later.0, omega (arith, first.1, later.1), later.2)

    -- an edge of the graph is one of the database
    step-map : (a c : ℕ) → HasEdge (edges crates) a c → HasEdge (crate_edges new.crates) (database_number numbers a) (database_number numbers c)
    step-map a c edge =
        let from = edge_crate crates a c edge in
        let held = input-found (input_in new.crates (get_or numbers a 0)) (data_of (number_in numbers) from.0) (held-data a from.0 from.1) in
        let named : Contains (named_in held.0.crate_data) (database_number numbers c) =
        subst (λ l. Contains l (database_number numbers c)) (sym (ap named_in held.2 ∙ names-targets from.0)) (mapped_to (λ target. get_or numbers target 0) (dependency_row from.0) c from.2) in
        input-edge new.crates (get_or numbers a 0) held.0 (database_number numbers c) held.1 named

    -- and so is a path
    reach-map : {a b : ℕ} → Reaches (edges crates) a b → Reaches (crate_edges new.crates) (database_number numbers a) (database_number numbers b)
    reach-map itself = itself
    reach-map (further edge rest) = further (step-map _ _ edge) (reach-map rest)

    -- the source of an edge that is held has a number
    source-at : (krate : ℕ) (input : CrateInput) → input_at new.crates numbers krate ≡ Some input → (krate < length numbers) × (input_in new.crates (database_number numbers krate) ≡ Some input)
    source-at krate input is = by (slice_get numbers krate) refl
      where
        by : (found : Option ℕ) → slice_get numbers krate ≡ found → (krate < length numbers) × (input_in new.crates (database_number numbers krate) ≡ Some input)
        by None none = let both : None ≡ Some input = sym (ap (option_and_then (input_in new.crates)) none) ∙ is in absurd (cc)
        by (Some number) at = (
          slice_get_within numbers krate number at,
          ap (input_in new.crates) (get_or_from_slice_get numbers krate number 0 at) ∙ sym (ap (option_and_then (input_in new.crates)) at) ∙ is,
        )

    pub lacks_cycles : LacksCyclesIn (project_lowered p files).wants new numbers
    lacks_cycles e wants = (
      λ has reaches.
          let source = source-at e.source has.input has.source in
          let listed : Contains new.listed (database_number numbers e.source) =
          (are_listed.listed (database_number numbers e.source)).1 (e.source, source.0, get_or_default numbers e.source (database_number numbers e.source) 0 source.0) in
          let place = found-in new.listed (database_number numbers e.source) listed in
          let named = dep-named has.input.crate_data.dependencies (renamed_dep numbers e.dep) has.has in
          let before = lists_in_order.behind place.0 (database_number numbers e.source) (database_number numbers e.dep.target) has.input place.2 source.1 named in
          let back = reach-back before.0 before.2 reaches in
          let one = once-place new.listed lists_in_order.once back.0 place.0 (database_number numbers e.source) back.2 place.2 in
          omega (arith, back.1, before.1, one),
      λ apart.
          let has : HasDep crates e = subst (λ cs. HasDep cs e) same ((is.missing e wants).1 (λ reaches. apart (reach-map (subst (λ cs. Reaches (edges cs) e.dep.target e.source) same reaches)))) in
          let held = input-found (input_in new.crates (get_or numbers e.source 0)) (data_of (number_in numbers) has.krate) (held-data e.source has.krate has.source) in
          record {
            input = held.0;
            source = ap (option_and_then (input_in new.crates)) (number-of e.source has.krate has.source) ∙ held.1;
            has = subst (λ l. Contains l (renamed_dep numbers e.dep)) (sym (ap (λ (d : CrateData ℕ). map dep_held d.dependencies) held.2 ∙ held-deps has.krate.basic.dependencies))
                (mapped_to (renamed_dep numbers) (map dep_seen has.krate.basic.dependencies) e.dep has.has);
          },
    )

    pub shows_project_in : ShowsProject new p files
    shows_project_in = record {
      crates = map crate_seen crates;
      lowers = is.crates ∙ ap (λ cs. Ok (map crate_seen cs)) same;
      numbers = numbers;
      are = are_listed;
      missing = lacks_cycles;
    }

-- as a flush has it
pub shows_project : (cmp : Id → Id → Ordering) (p : ProjectContent) (files : List (ℕ × PathContent)) (graph : Graph) (old new : Database) (ids : tree.BTreeMap Id ℕ)
    → IsSetInDb cmp graph.crates old new ids → IsProjectGraph p files graph → ShowsProject new p files
shows_project cmp p files graph old new ids set is = shows_project_in cmp graph.crates old new ids set p files graph refl is
