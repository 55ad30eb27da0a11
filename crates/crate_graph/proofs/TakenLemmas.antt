-- What a graph is while another's crates are taken in.
use Rattle.std.proofs.Common.{◌≡◌, ℕ, zero, suc, ◌+◌, ◌<◌, ◌≤◌, ◌⊎◌, inl, inr, Bool, true, List, [], ◌∷◌, ◌++◌, map, take, length, get_or, set, fold, position, Option, Some, None, refl, sym, ap, ◌∙◌, subst, arith, get_or-set_same, get_or-set_other, length-set}
use Rattle.std.specs.Prelude.{slice_get}
use Rattle.std.specs.List.{Contains}
use Rattle.std.specs.Option.{option_map}
use Rattle.std.proofs.lemmas.List.{get_or_default, get_or-take, length-map, length-take-le, length_push, take_all, take_more}
use Rattle.std.proofs.lemmas.List.Elements.{Contains-append_left, Contains-append_right, Contains-push_cases}
use Rattle.std.proofs.lemmas.List.Quantifiers.{position-Some}
use Rattle.std.proofs.lemmas.List.Sorted.{Contains-permutation, IsPermutation-map, IsPermutation-sym}
use Rattle.std.proofs.lemmas.List.Sums.{fold_more}
use Rattle.std.proofs.lemmas.Option.{slice_get-get_or, slice_get-map, slice_get_within}
use Rattle.base_values.proofs.InOrder.{sorted-IsPermutation}
use Rattle.base_values.specs.Sorted.{sorted}
use Rattle.graph_base.specs.Edges.{HasEdge}
use Rattle.graph_base.specs.Finish.{IsBehindTargets}
use Rattle.graph_base.proofs.FinishLemmas.{contains_cases}
use Rattle.graph_base.proofs.ReachLemmas.{none_in}
use Rattle.crate_graph_values.specs.declared.builder.CrateBuilder.{CrateBuilder}
use Rattle.crate_graph_values.specs.declared.crate_data.Dependency.{Dependency}
use Rattle.crate_graph.specs.Extend.{Id, Merge, KeepsCrates, before_merge, by_number, with_dependencies, with_sorted_dependencies, merge_of, with_new_ids, new_id_at, take_in, with_crate_at}
use Rattle.crate_graph.specs.Graph.{edges, dependency_row, target_of}
use Rattle.crate_graph_values.specs.Laws.{renamed_dependency}
use Rattle.crate_graph.proofs.ExtendLemmas.{before_merge-long, before_merge-new_numbers, crate_edge, edge_crate, take_in-at}
use Rattle.crate_graph.proofs.GraphLemmas.{length-edges, slice_get_some}

-- ---- look-ups in a list that was pushed to

slice_get-left : {X : Type 0} (xs ys : List X) (i : ℕ) (x : X) → slice_get xs i ≡ Some x → slice_get (xs ++ ys) i ≡ Some x
slice_get-left [] ys i x is = cc
slice_get-left (y ∷ xs) ys zero x is = is
slice_get-left (y ∷ xs) ys (suc i) x is = slice_get-left xs ys i x is

slice_get-last : {X : Type 0} (xs : List X) (y : X) (i : ℕ) → i ≡ length xs → slice_get (xs ++ y ∷ []) i ≡ Some y
slice_get-last [] y zero at = refl
slice_get-last [] y (suc i) at = absurd (omega arith)
slice_get-last (x ∷ xs) y zero at = absurd (omega arith)
slice_get-last (x ∷ xs) y (suc i) at = slice_get-last xs y i (omega arith)

slice_get-pushed : {X : Type 0} (xs : List X) (y : X) (i : ℕ) (x : X) → slice_get (xs ++ y ∷ []) i ≡ Some x → (slice_get xs i ≡ Some x) ⊎ ((i ≡ length xs) × (y ≡ x))
slice_get-pushed [] y zero x is = inr (refl, cc)
slice_get-pushed [] y (suc i) x is = inl is
slice_get-pushed (z ∷ xs) y zero x is = inl is
slice_get-pushed (z ∷ xs) y (suc i) x is = elim (slice_get-pushed xs y i x is) [
  | inl old ↦ inl old
  | inr last ↦ inr (omega (arith, last.0), last.1)
]

-- ---- the edges of a crate with other dependencies

row-with_dependencies : (deps : List (Dependency Id)) (krate : CrateBuilder) (b : ℕ) → Contains (dependency_row (with_dependencies deps krate)) b → Contains (map target_of deps) b
unfolding with_dependencies
row-with_dependencies deps krate b c =
    let order = sorted-IsPermutation by_number deps in
    let back = IsPermutation-map target_of (sorted by_number deps) deps (IsPermutation-sym deps (sorted by_number deps) order) in
    Contains-permutation (map target_of (sorted by_number deps)) (map target_of deps) b back c

row-renamed_deps : (new_numbers : List ℕ) (deps : List (Dependency Id)) (b : ℕ) → Contains (map target_of (map (renamed_dependency (new_id_at new_numbers)) deps)) b → (d : ℕ) × Contains (map target_of deps) d × (b ≡ get_or new_numbers d 0)
row-renamed_deps new_numbers [] b c = absurd (none_in b c)
row-renamed_deps new_numbers (dep ∷ deps) b c =
    let renamed_row : List ℕ = map target_of (map (renamed_dependency (new_id_at new_numbers)) deps) in
    elim (contains_cases (get_or new_numbers (target_of dep) 0) renamed_row b c) [
      | inl same ↦ (target_of dep, (0, omega arith, refl), sym same)
      | inr other ↦
          let rest = row-renamed_deps new_numbers deps b other in
          (rest.0, Contains-append_right (target_of dep ∷ []) (map target_of deps) rest.0 rest.1, rest.2)
    ]

-- an edge of a with_new_ids crate leads to the new number of a target
row-with_new_ids : (new_numbers : List ℕ) (krate : CrateBuilder) (b : ℕ) → Contains (dependency_row (with_new_ids (new_id_at new_numbers) krate)) b → (d : ℕ) × Contains (dependency_row krate) d × (b ≡ get_or new_numbers d 0)
row-with_new_ids new_numbers krate b c =
    row-renamed_deps new_numbers krate.basic.dependencies b (row-with_dependencies (map (renamed_dependency (new_id_at new_numbers)) krate.basic.dependencies) krate b c)

-- dependencies are with_new_ids alike where the numbers of their targets are
same_deps : (new : Id → Id) (other : Id → Id) (deps : List (Dependency Id)) → ((id : Id) → Contains (map target_of deps) id.raw → new id ≡ other id) → map (renamed_dependency new) deps ≡ map (renamed_dependency other) deps
same_deps new other [] agree = refl
same_deps new other (dep ∷ deps) agree =
    let first : new dep.crate_id ≡ other dep.crate_id = agree dep.crate_id (0, omega arith, refl) in
    let rest = same_deps new other deps (λ id c. agree id (Contains-append_right (target_of dep ∷ []) (map target_of deps) id.raw c)) in
    λ i. record { crate_id = first i; name = dep.name; prelude = dep.prelude; sysroot = dep.sysroot } ∷ rest i

pub renamed_same : (new other : Id → Id) (krate : CrateBuilder) → ((id : Id) → Contains (dependency_row krate) id.raw → new id ≡ other id) → with_new_ids new krate ≡ with_new_ids other krate
renamed_same new other krate agree = ap (λ deps. with_dependencies deps krate) (same_deps new other krate.basic.dependencies agree)

renumbered_same : (new_numbers other : List ℕ) (krate : CrateBuilder) → ((b : ℕ) → Contains (dependency_row krate) b → get_or new_numbers b 0 ≡ get_or other b 0) → with_new_ids (new_id_at new_numbers) krate ≡ with_new_ids (new_id_at other) krate
renumbered_same new_numbers other krate agree =
    renamed_same (new_id_at new_numbers) (new_id_at other) krate (λ id c. ap (λ (n : ℕ). record id { raw = n }) (agree id.raw c))

-- ---- what holds of a graph that has taken some of the other's crates in

-- the crate of a number has an equal one under its new number
abbrev pub HasEqual : (CrateBuilder → CrateBuilder → Bool) → Merge → ℕ → CrateBuilder → Type 0
HasEqual eq j n krate = (there : CrateBuilder) × (slice_get j.crates (get_or j.new_numbers n 0) ≡ Some there) × (eq there (with_new_ids (new_id_at j.new_numbers) krate) ≡ true)

pub record IsTaken (eq : CrateBuilder → CrateBuilder → Bool) (olds others : List CrateBuilder) (done : List ℕ) (j : Merge) : Type 0 where
  pub news_long : length j.new_numbers ≡ length others
  pub longer : length olds ≤ length j.crates
  pub kept : KeepsCrates olds j.crates
  pub inside : (n : ℕ) → Contains done n → n < length others
  pub closed : (n b : ℕ) → Contains done n → HasEdge (edges others) n b → Contains done b
  pub equal : (n : ℕ) (krate : CrateBuilder) → Contains done n → slice_get others n ≡ Some krate → HasEqual eq j n krate
  pub apart : (m n : ℕ) → Contains done m → Contains done n → (m ≡ n → ⊥) → get_or j.new_numbers m 0 ≡ get_or j.new_numbers n 0 → get_or j.new_numbers m 0 < length olds
  pub lower : (k b : ℕ) → length olds ≤ k → HasEdge (edges j.crates) k b → b < k

pub taken_none : (eq : CrateBuilder → CrateBuilder → Bool) (olds others : List CrateBuilder) → IsTaken eq olds others [] (before_merge olds others)
taken_none eq olds others = record {
  news_long = before_merge-new_numbers olds others;
  longer = omega (arith, before_merge-long olds others);
  kept = λ n krate is. slice_get-map with_sorted_dependencies olds n ∙ ap (option_map with_sorted_dependencies) is;
  inside = λ n c. absurd (none_in n c);
  closed = λ n b c e. absurd (none_in n c);
  equal = λ n krate c is. absurd (none_in n c);
  apart = λ m n c d differ same. absurd (none_in m c);
  lower = λ k b past e.
      let at = edge_crate (map with_sorted_dependencies olds) k b e in
      absurd (omega (arith, slice_get_within (map with_sorted_dependencies olds) k at.0 at.1, length-map olds with_sorted_dependencies));
}

-- one more crate is taken in: it becomes one at a place, or is appended
module _ (eq : CrateBuilder → CrateBuilder → Bool) (olds others : List CrateBuilder) (done : List ℕ) (j : Merge) (n : ℕ) (krate : CrateBuilder) (old : IsTaken eq olds others done j)
    (at : slice_get others n ≡ Some krate) (new : Contains done n → ⊥) (below : (b : ℕ) → Contains (dependency_row krate) b → Contains done b) (v : ℕ) where
  news_then : List ℕ
  news_then = set j.new_numbers n v

  other_news : (b : ℕ) → Contains done b → get_or (set j.new_numbers n v) b 0 ≡ get_or j.new_numbers b 0
  other_news b c = get_or-set_other j.new_numbers n b v 0 (λ same. new (subst (Contains done) same c))

  own_news : get_or (set j.new_numbers n v) n 0 ≡ v
  own_news = get_or-set_same j.new_numbers n v 0 (omega (arith, slice_get_within others n krate at, old.news_long))

  own_renamed : with_new_ids (new_id_at (set j.new_numbers n v)) krate ≡ with_new_ids (new_id_at j.new_numbers) krate
  own_renamed = renumbered_same (set j.new_numbers n v) j.new_numbers krate (λ b c. other_news b (below b c))

  other_renamed : (m : ℕ) (k : CrateBuilder) → Contains done m → slice_get others m ≡ Some k → with_new_ids (new_id_at (set j.new_numbers n v)) k ≡ with_new_ids (new_id_at j.new_numbers) k
  other_renamed m k c is = renumbered_same (set j.new_numbers n v) j.new_numbers k (λ b d. other_news b (old.closed m b c (crate_edge others m b k is d)))

  -- an old number leads to a crate
  old_number : (m : ℕ) → Contains done m → get_or j.new_numbers m 0 < length j.crates
  old_number m c =
      let k = slice_get_some others m (old.inside m c) in
      let e = old.equal m k.0 c k.1 in
      slice_get_within j.crates (get_or j.new_numbers m 0) e.0 e.1

  inside_then : (m : ℕ) → Contains (done ++ n ∷ []) m → m < length others
  inside_then m c = elim (Contains-push_cases done n m c) [
    | inl was ↦ old.inside m was
    | inr same ↦ subst (λ z. z < length others) same (slice_get_within others n krate at)
  ]

  closed_then : (m b : ℕ) → Contains (done ++ n ∷ []) m → HasEdge (edges others) m b → Contains (done ++ n ∷ []) b
  closed_then m b c e = elim (Contains-push_cases done n m c) [
    | inl was ↦ Contains-append_left done (n ∷ []) b (old.closed m b was e)
    | inr same ↦
        let from = edge_crate others n b (subst (λ z. HasEdge (edges others) z b) (sym same) e) in
        let is : krate ≡ from.0 = cc (at, from.1) in
        Contains-append_left done (n ∷ []) b (below b (subst (λ k. Contains (dependency_row k) b) (sym is) from.2))
  ]

  equal_then : (crates : List CrateBuilder) → ((i : ℕ) (x : CrateBuilder) → slice_get j.crates i ≡ Some x → slice_get crates i ≡ Some x) → (there : CrateBuilder) → slice_get crates v ≡ Some there → eq there (with_new_ids (new_id_at j.new_numbers) krate) ≡ true
      → (m : ℕ) (k : CrateBuilder) → Contains (done ++ n ∷ []) m → slice_get others m ≡ Some k → HasEqual eq (record { crates = crates; new_numbers = set j.new_numbers n v }) m k
  equal_then crates grows there here same m k c is = elim (Contains-push_cases done n m c) [
    | inl was ↦
        let e = old.equal m k was is in
        (e.0, subst (λ z. slice_get crates z ≡ Some e.0) (sym (other_news m was)) (grows (get_or j.new_numbers m 0) e.0 e.1), subst (λ z. eq e.0 z ≡ true) (sym (other_renamed m k was is)) e.2)
    | inr at_n ↦
        let one : krate ≡ k = cc (at, subst (λ z. slice_get others z ≡ Some k) (sym at_n) is) in
        subst (λ z. HasEqual eq (record { crates = crates; new_numbers = set j.new_numbers n v }) z k) at_n (subst (λ z. HasEqual eq (record { crates = crates; new_numbers = set j.new_numbers n v }) n z) one (
          there,
          subst (λ z. slice_get crates z ≡ Some there) (sym own_news) here,
          subst (λ z. eq there z ≡ true) (sym own_renamed) same,
        ))
  ]

  apart_then : (v < length olds) ⊎ (length j.crates ≤ v) → (l m : ℕ) → Contains (done ++ n ∷ []) l → Contains (done ++ n ∷ []) m → (l ≡ m → ⊥) → get_or (set j.new_numbers n v) l 0 ≡ get_or (set j.new_numbers n v) m 0 → get_or (set j.new_numbers n v) l 0 < length olds
  apart_then place l m c d differ same = elim (Contains-push_cases done n l c) [
    | inl l_was ↦ elim (Contains-push_cases done n m d) [
      | inl m_was ↦
          subst (λ z. z < length olds) (sym (other_news l l_was)) (old.apart l m l_was m_was differ (sym (other_news l l_was) ∙ same ∙ other_news m m_was))
      | inr m_is ↦
          let is : get_or (set j.new_numbers n v) l 0 ≡ v = same ∙ ap (λ z. get_or (set j.new_numbers n v) z 0) (sym m_is) ∙ own_news in
          elim place [
            | inl low ↦ subst (λ z. z < length olds) (sym is) low
            | inr high ↦ absurd (omega (arith, old_number l l_was, other_news l l_was, is))
          ]
    ]
    | inr l_is ↦ elim (Contains-push_cases done n m d) [
      | inl m_was ↦
          let is : get_or (set j.new_numbers n v) l 0 ≡ v = ap (λ z. get_or (set j.new_numbers n v) z 0) (sym l_is) ∙ own_news in
          elim place [
            | inl low ↦ subst (λ z. z < length olds) (sym is) low
            | inr high ↦ absurd (omega (arith, old_number m m_was, other_news m m_was, is, same))
          ]
      | inr m_is ↦ absurd (differ (sym l_is ∙ m_is))
    ]
  ]

-- the crate becomes one of the old ones
taken_found : (eq : CrateBuilder → CrateBuilder → Bool) (olds others : List CrateBuilder) (done : List ℕ) (j : Merge) (n : ℕ) (krate there : CrateBuilder) → IsTaken eq olds others done j → slice_get others n ≡ Some krate → (Contains done n → ⊥)
    → ((b : ℕ) → Contains (dependency_row krate) b → Contains done b) → (place : ℕ) → place < length olds → slice_get j.crates place ≡ Some there → eq there (with_new_ids (new_id_at j.new_numbers) krate) ≡ true
    → IsTaken eq olds others (done ++ n ∷ []) (record { crates = j.crates; new_numbers = set j.new_numbers n place })
taken_found eq olds others done j n krate there old at new below place low is same = record {
  news_long = length-set j.new_numbers n place ∙ old.news_long;
  longer = old.longer;
  kept = old.kept;
  inside = inside_then eq olds others done j n krate old at new below place;
  closed = closed_then eq olds others done j n krate old at new below place;
  equal = equal_then eq olds others done j n krate old at new below place j.crates (λ i x here. here) there is same;
  apart = apart_then eq olds others done j n krate old at new below place (inl low);
  lower = old.lower;
}

-- the crate is appended
taken_appended : (eq : CrateBuilder → CrateBuilder → Bool) (olds others : List CrateBuilder) (done : List ℕ) (j : Merge) (n : ℕ) (krate : CrateBuilder) → ((x : CrateBuilder) → eq x x ≡ true) → IsTaken eq olds others done j → slice_get others n ≡ Some krate
    → (Contains done n → ⊥) → ((b : ℕ) → Contains (dependency_row krate) b → Contains done b) → IsTaken eq olds others (done ++ n ∷ []) (record { crates = j.crates ++ with_new_ids (new_id_at j.new_numbers) krate ∷ []; new_numbers = set j.new_numbers n (length j.crates) })
taken_appended eq olds others done j n krate itself old at new below =
    let r = with_new_ids (new_id_at j.new_numbers) krate in
    let v = length j.crates in
    record {
      news_long = length-set j.new_numbers n v ∙ old.news_long;
      longer = omega (arith, old.longer, length_push j.crates r);
      kept = λ k x is. slice_get-left j.crates (r ∷ []) k (with_sorted_dependencies x) (old.kept k x is);
      inside = inside_then eq olds others done j n krate old at new below v;
      closed = closed_then eq olds others done j n krate old at new below v;
      equal = equal_then eq olds others done j n krate old at new below v (j.crates ++ r ∷ []) (λ i x is. slice_get-left j.crates (r ∷ []) i x is) r (slice_get-last j.crates r v refl) (itself r);
      apart = apart_then eq olds others done j n krate old at new below v (inr (omega arith));
      lower = λ k b past e.
          let from = edge_crate (j.crates ++ r ∷ []) k b e in
          elim (slice_get-pushed j.crates r k from.0 from.1) [
            | inl was ↦ old.lower k b past (crate_edge j.crates k b from.0 was from.2)
            | inr last ↦
                let target = row-with_new_ids j.new_numbers krate b (subst (λ z. Contains (dependency_row z) b) (sym last.1) from.2) in
                omega (arith, old_number eq olds others done j n krate old at new below v target.0 (below target.0 target.1), target.2, last.0)
          ];
    }

-- the crate is taken in
pub taken_more : (eq : CrateBuilder → CrateBuilder → Bool) (olds others : List CrateBuilder) (done : List ℕ) (j : Merge) (n : ℕ) → ((x : CrateBuilder) → eq x x ≡ true) → IsTaken eq olds others done j → n < length others → (Contains done n → ⊥)
    → ((b : ℕ) → HasEdge (edges others) n b → Contains done b) → IsTaken eq olds others (done ++ n ∷ []) (take_in eq (length olds) others j n)
taken_more eq olds others done j n itself old within new below =
    let at = slice_get_some others n within in
    let krate = at.0 in
    let r = with_new_ids (new_id_at j.new_numbers) krate in
    let test : CrateBuilder → Bool = λ x. eq x r in
    let targets : (b : ℕ) → Contains (dependency_row at.0) b → Contains done b = λ b c. below b (crate_edge others n b at.0 at.1 c) in
    let many : length olds ≤ length j.crates = old.longer in
    let cut : length (take (length olds) j.crates) ≡ length olds = length-take-le (length olds) j.crates many in
    let cases : (o : Option ℕ) → position test (take (length olds) j.crates) ≡ o → IsTaken eq olds others (done ++ n ∷ []) (with_crate_at j n r o) = λ o.
    elim o as (λ o. position test (take (length olds) j.crates) ≡ o → IsTaken eq olds others (done ++ n ∷ []) (with_crate_at j n r o)) [
      | Some place ↦ λ is.
          let found = position-Some test (take (length olds) j.crates) place r is in
          let low : place < length olds = omega (arith, found.0, cut) in
          let there = get_or j.crates place r in
          let here : slice_get j.crates place ≡ Some (get_or j.crates place r) = slice_get-get_or j.crates place r (omega (arith, low, many)) in
          let equal : eq (get_or j.crates place r) r ≡ true = subst (λ x. eq x r ≡ true) (get_or-take (length olds) j.crates place r low) found.1 in
          taken_found eq olds others done j n krate there old at.1 new targets place low here equal
      | None ↦ λ is. taken_appended eq olds others done j n krate itself old at.1 new targets
    ] in
    subst (IsTaken eq olds others (done ++ n ∷ [])) (sym (take_in-at eq (length olds) others j n krate at.1)) (cases (position test (take (length olds) j.crates)) refl)

-- all crates are taken in, each after those that it depends on
module _ (eq : CrateBuilder → CrateBuilder → Bool) (olds others : List CrateBuilder) (order : List ℕ) (itself : (x : CrateBuilder) → eq x x ≡ true) (behind : IsBehindTargets (edges others) order) where
  taken_upto : (i : ℕ) → i ≤ length order → IsTaken eq olds others (take i order) (fold (take_in eq (length olds) others) (before_merge olds others) (take i order))
  taken_upto zero within = taken_none eq olds others
  taken_upto (suc i) within =
      let f = take_in eq (length olds) others in
      let start = before_merge olds others in
      let n = get_or order i 0 in
      let there : i < length order = omega arith in
      let next : suc i ≡ i + 1 = omega arith in
      let fits : get_or order i 0 < length others = omega (arith, (behind.all n).0 (i, there, get_or_default order i n 0 there), length-edges others) in
      let new : Contains (take i order) (get_or order i 0) → ⊥ = λ c.
      let k_low : c.0 < i = omega (arith, c.1, length-take-le i order (omega arith)) in
      let is : get_or order c.0 0 ≡ get_or order i 0 = sym (get_or_default order c.0 n 0 (omega arith)) ∙ sym (get_or-take i order c.0 n k_low) ∙ c.2 in
      behind.once c.0 i k_low there is in
      let below : (b : ℕ) → HasEdge (edges others) (get_or order i 0) b → Contains (take i order) b = λ b e.
      let at = behind.behind i b there e in
      let low : at.0 < i = at.1 in
      (at.0, omega (arith, low, length-take-le i order (omega arith)), get_or-take i order at.0 b low ∙ get_or_default order at.0 b 0 (omega arith) ∙ at.2) in
      let step = taken_more eq olds others (take i order) (fold f start (take i order)) n itself (taken_upto i (omega arith)) fits new below in
      let front : take (i + 1) order ≡ take i order ++ get_or order i 0 ∷ [] = take_more order i 0 there in
      let folded : fold f start (take (i + 1) order) ≡ f (fold f start (take i order)) (get_or order i 0) = fold_more f start order i 0 there in
      subst (λ m. IsTaken eq olds others (take m order) (fold f start (take m order))) (sym next)
      (subst (λ done. IsTaken eq olds others done (fold f start (take (i + 1) order))) (sym front) (subst (IsTaken eq olds others (take i order ++ n ∷ [])) (sym folded) step))

  pub taken_all : IsTaken eq olds others order (merge_of eq olds others order)
  taken_all =
      let all : take (length order) order ≡ order = take_all (length order) order (omega arith) in
      subst (λ done. IsTaken eq olds others done (fold (take_in eq (length olds) others) (before_merge olds others) done)) all (taken_upto (length order) (omega arith))

-- a crate whose dependencies are sorted depends on what it did
pub row-with_sorted_dependencies : (krate : CrateBuilder) (b : ℕ) → Contains (dependency_row (with_sorted_dependencies krate)) b → Contains (dependency_row krate) b
row-with_sorted_dependencies krate b c = row-with_dependencies krate.basic.dependencies krate b c
