-- The nodes that are kept have each new number once, in the order of their old ranks.
use Rattle.std.proofs.Common.{◌≡◌, ℕ, Bool, zero, suc, ◌+◌, ◌<◌, ◌≤◌, ◌≢◌, ◌^◌, inl, inr, true, false, cond, List, [], ◌∷◌, ◌++◌, map, length, get_or, Option, Some, None, refl, set, take, sym, ap, ◌∙◌, subst, arith, add-one, get_or-set_same, get_or-set_other}
use Rattle.std.specs.Prelude.{filter, slice_index, slice_index_or, ◌==◌, ◌||◌}
use Rattle.std.specs.List.{All, AllPairs, Contains, cons_option, filter_map, range_with_len}
use Rattle.std.proofs.lemmas.Bool.{cases_Bool, cases_eq, cases_order, eq-eqb, ne_eqb, or_right}
use Rattle.std.proofs.lemmas.List.{append-nil, get_or_default, get_or-map, length-map, take_more}
use Rattle.std.proofs.lemmas.List.Elements.{All-from_get_or, All-get_or, All-head, All-tail, filter_map-append, filter_passes}
use Rattle.std.proofs.lemmas.List.Folds.{list_any_at, list_any_more}
use Rattle.std.proofs.lemmas.List.FromFn.{get_or-map-range_with_len, length-map-range_with_len, map-range_with_len_more}
use Rattle.std.proofs.lemmas.List.Kept.{AllPairs-filter}
use Rattle.graph_base.specs.Kept.{is_named, kept_below}
use Rattle.graph_base.proofs.KeptLemmas.{below_less, below_named, below_other, below_tells, in_range_kept, length-kept_rows, old_edge}
use Rattle.crate_graph.specs.Order.{IsOrder, Ranking}
use Rattle.crate_graph.specs.Suborder.{FitsKept, HasEachOnce, KeepsRanks, kept_nodes, new_number}
use Rattle.crate_graph.proofs.EachOnceLemmas.{as_many}
use Rattle.crate_graph.proofs.PruneLemmas.{or_false}

-- ---- the new numbers

-- the same of the number behind it, as a loop has it
pub more_named : (keep : List ℕ) (n : ℕ) → is_named keep n ≡ true → kept_below keep (n + 1) ≡ kept_below keep n + 1
more_named keep n is = ap (kept_below keep) (add-one n) ∙ below_named keep n is

pub more_other : (keep : List ℕ) (n : ℕ) → is_named keep n ≡ false → kept_below keep (n + 1) ≡ kept_below keep n
more_other keep n is = ap (kept_below keep) (add-one n) ∙ below_other keep n is

pub below_small : (keep : List ℕ) (n : ℕ) → kept_below keep n ≤ n
below_small keep zero = omega arith
below_small keep (suc n) =
    let before = below_small keep n in
    elim (is_named keep n) as (λ b. cond b (kept_below keep n + 1) (kept_below keep n) ≤ suc n) [ true ↦ omega (arith, before) | false ↦ omega (arith, before) ]

-- the node that has a new number
node_of_number : (keep : List ℕ) (count m : ℕ) → m < kept_below keep count → (n : ℕ) × (n < count) × (is_named keep n ≡ true) × (kept_below keep n ≡ m)
node_of_number keep zero m below = absurd (omega arith)
node_of_number keep (suc count) m below = elim (cases_Bool (is_named keep count)) [
  | inl is ↦ elim (cases_eq m (kept_below keep count)) [
    | inl last ↦ (count, omega arith, is, sym last)
    | inr other ↦
        let old = node_of_number keep count m (omega (arith, below, below_named keep count is, other)) in
        (old.0, omega (arith, old.1), old.2, old.3)
  ]
  | inr is ↦
      let old = node_of_number keep count m (omega (arith, below, below_other keep count is)) in
      (old.0, omega (arith, old.1), old.2, old.3)
]

pub nodes_known : (order : Ranking) → IsOrder order → All (λ n. n < length order.nodes) order.nodes
nodes_known order is = All-from_get_or (λ n. n < length order.nodes) order.nodes 0 is.nodes_within

-- ---- lists of which some are kept

contains_later : {X : Type 0} (y : X) (xs : List X) (x : X) → Contains xs x → Contains (y ∷ xs) x
contains_later y xs x c = (suc c.0, omega (arith, c.1), c.2)

pub contains_filter : (p : ℕ → Bool) (xs : List ℕ) (x : ℕ) → p x ≡ true → Contains xs x → Contains (filter p xs) x
contains_filter p [] x is c = absurd (omega (arith, c.1))
contains_filter p (y ∷ ys) x is (zero, within, at) =
    subst (λ b. Contains (cond b (y ∷ filter p ys) (filter p ys)) x) (sym (ap p at ∙ is)) (0, omega arith, at)
contains_filter p (y ∷ ys) x is (suc i, within, at) =
    let later = contains_filter p ys x is (i, omega (arith, within), at) in
    elim (p y) as (λ b. Contains (cond b (y ∷ filter p ys) (filter p ys)) x) [
      | true ↦ contains_later y (filter p ys) x later
      | false ↦ later
    ]

contains_map : (f : ℕ → ℕ) (xs : List ℕ) (x y : ℕ) → f x ≡ y → Contains xs x → Contains (map f xs) y
contains_map f xs x y is c =
    (c.0, omega (arith, c.1, length-map xs f), get_or-map f xs c.0 x y c.1 ∙ ap f c.2 ∙ is)

-- ---- the nodes that are kept

module _ (keep : List ℕ) (order : Ranking) (is : IsOrder order) (known : (n : ℕ) → is_named keep n ≡ true → n < length order.nodes) where
  abbrev left : List ℕ
  left = filter (is_named keep) order.nodes

  -- the ranks rise along what is kept
  rising : AllPairs (λ m n. slice_index order.ranks m < slice_index order.ranks n) (filter (is_named keep) order.nodes)
  rising = AllPairs-filter (λ m n. slice_index order.ranks m < slice_index order.ranks n) (is_named keep) order.nodes
      (λ i j d before within.
      let at_i = get_or_default order.nodes i d 0 (omega (arith, before, within)) in
      let at_j = get_or_default order.nodes j d 0 within in
      omega (arith, before, ap (λ n. slice_index order.ranks n) at_i, ap (λ n. slice_index order.ranks n) at_j, is.rank_of_node i (omega (arith, before, within)), is.rank_of_node j within))

  -- what is kept is named and known
  named_left : (i d : ℕ) → i < length (filter (is_named keep) order.nodes) → is_named keep (get_or (filter (is_named keep) order.nodes) i d) ≡ true
  named_left i d within = All-get_or (λ n. is_named keep n ≡ true) left i d within (filter_passes (is_named keep) order.nodes)

  -- what is kept stands under its new number
  number_at : (i d : ℕ) → i < length (filter (is_named keep) order.nodes) → get_or (kept_nodes keep order.nodes) i d ≡ kept_below keep (get_or (filter (is_named keep) order.nodes) i 0)
  number_at i d within = get_or-map (kept_below keep) left i 0 d within

  long_left : length (kept_nodes keep order.nodes) ≡ length (filter (is_named keep) order.nodes)
  long_left = length-map left (kept_below keep)

  once_left : AllPairs (λ m n. m ≢ n) (kept_nodes keep order.nodes)
  once_left i j d before within same =
      let inside : j < length left = omega (arith, within, long_left) in
      let there : i < length left = omega (arith, before, inside) in
      let numbers : kept_below keep (get_or left i 0) ≡ kept_below keep (get_or left j 0) = sym (number_at i d there) ∙ same ∙ number_at j d inside in
      let one : get_or left i 0 ≡ get_or left j 0 = below_tells keep (get_or left i 0) (get_or left j 0) (named_left i 0 there) (named_left j 0 inside) numbers in
      omega (arith, rising i j 0 before inside, ap (λ n. slice_index order.ranks n) one)

  within_left : All (λ n. n < kept_below keep (length order.nodes)) (kept_nodes keep order.nodes)
  within_left i d within =
      let inside : i < length left = omega (arith, within, long_left) in
      let named = named_left i 0 inside in
      omega (arith, number_at i d inside, below_less keep (get_or left i 0) (length order.nodes) named (known (get_or left i 0) named))

  all_left : (m : ℕ) → m < kept_below keep (length order.nodes) → Contains (kept_nodes keep order.nodes) m
  all_left m below =
      let n = node_of_number keep (length order.nodes) m below in
      let rank = slice_index order.ranks n.0 in
      let inside : rank < length order.nodes = is.ranks_within n.0 n.1 in
      let here : Contains order.nodes n.0 = (rank, inside, get_or_default order.nodes rank n.0 0 inside ∙ is.node_of_rank n.0 n.1) in
      contains_map (kept_below keep) left n.0 m n.3 (contains_filter (is_named keep) order.nodes n.0 n.2 here)

  length-kept_nodes : length (kept_nodes keep order.nodes) ≡ kept_below keep (length order.nodes)
  length-kept_nodes = as_many (kept_nodes keep order.nodes) (kept_below keep (length order.nodes)) once_left within_left all_left

  each_once_left : HasEachOnce (kept_nodes keep order.nodes)
  each_once_left = record {
    within = subst (λ count. All (λ n. n < count) (kept_nodes keep order.nodes)) (sym length-kept_nodes) within_left;
    once = once_left;
    all = λ n below. all_left n (omega (arith, below, length-kept_nodes));
  }

  short_left : length (kept_nodes keep order.nodes) < 2 ^ 32
  short_left = omega (arith, is.short, length-kept_nodes, below_small keep (length order.nodes))

  -- the place of a node among those that are kept
  place_of : (new : Ranking) → IsOrder new → new.nodes ≡ kept_nodes keep order.nodes → (n : ℕ) → is_named keep n ≡ true → n < length order.nodes
      → (slice_index new.ranks (kept_below keep n) < length (filter (is_named keep) order.nodes)) × (get_or (filter (is_named keep) order.nodes) (slice_index new.ranks (kept_below keep n)) 0 ≡ n)
  place_of new made nodes n named there =
      let long : length new.nodes ≡ length left = ap length nodes ∙ long_left in
      let number : kept_below keep n < length new.nodes = omega (arith, below_less keep n (length order.nodes) named there, ap length nodes, length-kept_nodes) in
      let rank = slice_index new.ranks (kept_below keep n) in
      let inside : rank < length left = omega (arith, made.ranks_within (kept_below keep n) number, long) in
      let at : kept_below keep (get_or left rank 0) ≡ kept_below keep n = sym (number_at rank 0 inside) ∙ ap (λ ns. get_or ns rank 0) (sym nodes) ∙ made.node_of_rank (kept_below keep n) number in
      (inside, below_tells keep (get_or left rank 0) n (named_left rank 0 inside) named at)

  module _ (new : Ranking) (made : IsOrder new) (nodes : new.nodes ≡ kept_nodes keep order.nodes) where
    pub keeps_ranks : KeepsRanks keep order new
    keeps_ranks m n m_named n_named m_in n_in less =
        let at_m = place_of new made nodes m m_named m_in in
        let at_n = place_of new made nodes n n_named n_in in
        let m_is = ap (λ z. slice_index order.ranks z) at_m.1 in
        let n_is = ap (λ z. slice_index order.ranks z) at_n.1 in
        elim (cases_order (slice_index new.ranks (kept_below keep m)) (slice_index new.ranks (kept_below keep n))) [
          | inl same ↦ absurd (omega (arith, less, m_is, n_is, ap (λ i. slice_index order.ranks (get_or left i 0)) same))
          | inr apart ↦ elim apart [
            | inl before ↦ before
            | inr behind ↦ absurd (omega (arith, less, m_is, n_is, rising (slice_index new.ranks (kept_below keep n)) (slice_index new.ranks (kept_below keep m)) 0 behind at_m.0))
          ]
        ]

    pub fits_kept : FitsKept keep order new
    fits_kept g whole old = record {
      ranks_each_once = made;
      count =
          let at : 0 + length g ≡ length g = omega arith in
          omega (arith, ap length nodes, length-kept_nodes, ap (kept_below keep) old.count, length-kept_rows keep 0 g, ap (kept_below keep) at);
      in_range = in_range_kept g keep whole;
      descends = λ a b e.
          let edge = old_edge g keep whole a b e in
          let to_in : edge.to < length order.nodes = omega (arith, whole.known edge.to edge.to_named, old.count) in
          let from_in : edge.from < length order.nodes = omega (arith, whole.known edge.from edge.from_named, old.count) in
          let less = keeps_ranks edge.to edge.from edge.to_named edge.from_named to_in from_in (old.descends edge.from edge.to edge.edge) in
          omega (arith, less, ap (λ z. slice_index new.ranks z) edge.from_is, ap (λ z. slice_index new.ranks z) edge.to_is);
    }

-- ---- marks

-- an item of a list is named by it
pub named_item : (keep : List ℕ) (k : ℕ) → k < length keep → is_named keep (get_or keep k 0) ≡ true
named_item keep k within = list_any_at (λ m. m == get_or keep k 0) keep k 0 within (eq-eqb (get_or keep k 0) (get_or keep k 0) refl)

-- one more mark
pub marks_more : (keep : List ℕ) (marks : List Bool) (i count : ℕ) → i < length keep → get_or keep i 0 < count → length marks ≡ count
    → ((n : ℕ) → n < count → get_or marks n false ≡ is_named (take i keep) n) → (n : ℕ) → n < count → get_or (set marks (get_or keep i 0) true) n false ≡ is_named (take (i + 1) keep) n
marks_more keep marks i count within below long marked n short =
    let more : is_named (take (i + 1) keep) n ≡ (is_named (take i keep) n || (get_or keep i 0 == n)) = list_any_more (λ m. m == n) keep i 0 within in
    let x = get_or keep i 0 in
    elim (cases_eq n (get_or keep i 0)) [
      | inl same ↦
          let here : (get_or keep i 0 == n) ≡ true = eq-eqb (get_or keep i 0) n (sym same) in
          let there : x < length marks = omega (arith, below, long) in
          ap (λ m. get_or (set marks x true) m false) same ∙ get_or-set_same marks x true false there ∙ sym (more ∙ or_right (is_named (take i keep) n) (get_or keep i 0 == n) here)
      | inr other ↦
          let apart : (get_or keep i 0 == n) ≡ false = ne_eqb (get_or keep i 0) n (λ e. other (sym e)) in
          get_or-set_other marks x n true false other ∙ marked n short ∙ sym (more ∙ or_false (is_named (take i keep) n) (get_or keep i 0 == n) apart)
    ]

-- ---- the list of new numbers

pub length-numbers : (keep : List ℕ) (numbers : List (Option ℕ)) (count : ℕ) → numbers ≡ map (new_number keep) (range_with_len 0 count) → length numbers ≡ count
length-numbers keep numbers count are = ap length are ∙ length-map-range_with_len (new_number keep) 0 count

-- the new number of one more node
module _ (numbers : List (Option ℕ)) (nodes kept : List ℕ) (k : ℕ) where
  more : (o : Option ℕ) → k < length nodes → slice_index_or numbers (get_or nodes k 0) None ≡ o → kept ≡ filter_map (λ node. slice_index_or numbers node None) (take k nodes)
      → kept ++ cons_option o [] ≡ filter_map (λ node. slice_index_or numbers node None) (take (k + 1) nodes)
  more o within is so_far =
      let f : ℕ → Option ℕ = λ node. slice_index_or numbers node None in
      ap (λ xs. xs ++ cons_option o []) so_far ∙ ap (λ z. filter_map f (take k nodes) ++ cons_option z []) (sym is)
      ∙ sym (ap (filter_map f) (take_more nodes k 0 within) ∙ filter_map-append f (take k nodes) (get_or nodes k 0 ∷ []))

  pub numbered_more : (number : ℕ) → k < length nodes → slice_index_or numbers (get_or nodes k 0) None ≡ Some number → kept ≡ filter_map (λ node. slice_index_or numbers node None) (take k nodes)
      → kept ++ number ∷ [] ≡ filter_map (λ node. slice_index_or numbers node None) (take (k + 1) nodes)
  numbered_more number within is so_far = more (Some number) within is so_far

  pub numbered_skip : k < length nodes → slice_index_or numbers (get_or nodes k 0) None ≡ None → kept ≡ filter_map (λ node. slice_index_or numbers node None) (take k nodes)
      → kept ≡ filter_map (λ node. slice_index_or numbers node None) (take (k + 1) nodes)
  numbered_skip within is so_far = sym (append-nil kept) ∙ more None within is so_far

-- one more new number
module _ (keep : List ℕ) (numbers : List (Option ℕ)) (k : ℕ) (are : numbers ≡ map (new_number keep) (range_with_len 0 k)) where
  numbers_push : (o : Option ℕ) → o ≡ new_number keep k → numbers ++ o ∷ [] ≡ map (new_number keep) (range_with_len 0 (k + 1))
  numbers_push o is =
      ap (λ xs. xs ++ o ∷ []) are ∙ ap (λ x. map (new_number keep) (range_with_len 0 k) ++ x ∷ []) is
      ∙ sym (map-range_with_len_more (new_number keep) 0 k k (omega arith))

  pub numbers_push-named : (number : ℕ) → is_named keep k ≡ true → number ≡ kept_below keep k → numbers ++ Some number ∷ [] ≡ map (new_number keep) (range_with_len 0 (k + 1))
  numbers_push-named number named is = numbers_push (Some number) (ap Some is ∙ sym (ap (λ b. cond b (Some (kept_below keep k)) None) named))

  pub numbers_push-other : is_named keep k ≡ false → numbers ++ None ∷ [] ≡ map (new_number keep) (range_with_len 0 (k + 1))
  numbers_push-other other = numbers_push None (sym (ap (λ b. cond b (Some (kept_below keep k)) None) other))

-- the nodes that have a new number are those that are named
numbered-is : (keep : List ℕ) (numbers : List (Option ℕ)) (count : ℕ) → numbers ≡ map (new_number keep) (range_with_len 0 count) → (nodes : List ℕ) → All (λ n. n < count) nodes
    → filter_map (λ node. slice_index_or numbers node None) nodes ≡ kept_nodes keep nodes
numbered-is keep numbers count are [] all = refl
numbered-is keep numbers count are (n ∷ ns) all =
    let at : slice_index_or numbers n None ≡ new_number keep n =
    ap (λ xs. slice_index_or xs n None) are ∙ get_or-map-range_with_len (new_number keep) 0 count n n None (All-head (λ n. n < count) n ns all) (omega arith) in
    let rest = numbered-is keep numbers count are ns (All-tail (λ n. n < count) n ns all) in
    ap (λ o. cons_option o (filter_map (λ node. slice_index_or numbers node None) ns)) at ∙ ap (cons_option (new_number keep n)) rest ∙
    elim (is_named keep n) as (λ b. cons_option (cond b (Some (kept_below keep n)) None) (kept_nodes keep ns) ≡ map (kept_below keep) (cond b (n ∷ filter (is_named keep) ns) (filter (is_named keep) ns))) [ true ↦ refl | false ↦ refl ]

-- ---- the order of what is left, from the lists that are made on the way

module _ (keep : List ℕ) (order : Ranking) (is : IsOrder order) (known : (n : ℕ) → is_named keep n ≡ true → n < length order.nodes) (count : ℕ) (counted : count ≡ length order.nodes)
    (numbers : List (Option ℕ)) (are : numbers ≡ map (new_number keep) (range_with_len 0 count)) (nodes : List ℕ) (made : nodes ≡ filter_map (λ node. slice_index_or numbers node None) order.nodes) where
  pub nodes_left : nodes ≡ kept_nodes keep order.nodes
  nodes_left = made ∙ numbered-is keep numbers count are order.nodes (subst (λ size. All (λ n. n < size) order.nodes) (sym counted) (nodes_known order is))

  pub each_once : HasEachOnce nodes
  each_once = subst HasEachOnce (sym nodes_left) (each_once_left keep order is known)

  pub short : length nodes < 2 ^ 32
  short = omega (arith, ap length nodes_left, short_left keep order is known)
