-- What a graph is once another's crates are taken in, as to the answered numbers.
use Rattle.std.proofs.Common.{◌≡◌, ℕ, ◌+◌, ◌<◌, ◌≤◌, inl, inr, Bool, true, List, [], ◌∷◌, map, take, position, length, get_or, cond, eqb, fold, Option, Some, None, refl, sym, ap, ◌∙◌, subst, arith}
use Rattle.std.specs.BTreeMap as tree
use Rattle.std.specs.Prelude.{slice_get, unwrap_or, IsSome, ◌↔◌}
use Rattle.std.specs.List.{All, AllByRecursion, Contains}
use Rattle.std.specs.Option.{option_map, option_or}
use Rattle.std.specs.declared.cmp.Ordering.{Ordering}
use Rattle.std.proofs.lemmas.Bool.{cases_lt, false≢true}
use Rattle.std.proofs.lemmas.List.Elements.{All-append, All-cons, All-map, All-nil, All-weaker, recursion_from_All}
use Rattle.std.proofs.lemmas.Option.{slice_get-get_or, slice_get_within}
use Rattle.base_text_paths.specs.Arena.{number_of}
use Rattle.graph_base.specs.Edges.{HasEdge, IsInRange}
use Rattle.graph_base.specs.Reach.{IsAcyclic}
use Rattle.crate_graph_values.specs.declared.builder.CrateBuilder.{CrateBuilder}
use Rattle.crate_graph.specs.Extend.{AreApart, PassesLimit, HasEquals, Id, Merge, before_merge, with_dependencies, with_sorted_dependencies, merge_of, moved_entry, new_id, with_new_ids, new_id_at, take_in, with_first_equal, with_crate_at}
use Rattle.crate_graph_values.specs.Laws.{HasCleanMacroDirectory}
use Rattle.graph_base.specs.Finish.{IsFinishOrder}
use Rattle.graph_base.proofs.FinishLemmas.{visits_unique}
use Rattle.crate_graph.specs.Order.{IsOrderOf, Ranking, with_next_nodes}
use Rattle.crate_graph.specs.Graph.{Graph, IsWellMadeGraph, edges, dependency_row}
use Rattle.crate_graph.proofs.RankLemmas.{ranked-with_more}
use Rattle.crate_graph.proofs.ExtendLemmas.{before_merge-new_numbers, crate_edge, edge_crate, take_in-new_numbers}
use Rattle.crate_graph.proofs.GraphLemmas.{clean_at, length-edges, slice_get_some}
use Rattle.crate_graph.proofs.TakenLemmas.{IsTaken, renamed_same, row-with_sorted_dependencies}

fold-new_numbers : (eq : CrateBuilder → CrateBuilder → Bool) (olds : ℕ) (others : List CrateBuilder) (j : Merge) (ns : List ℕ) → length (fold (take_in eq olds others) j ns).new_numbers ≡ length j.new_numbers
fold-new_numbers eq olds others j [] = refl
fold-new_numbers eq olds others j (n ∷ ns) = fold-new_numbers eq olds others (take_in eq olds others j n) ns ∙ take_in-new_numbers eq olds others j n

-- each crate of the other graph has a number
pub merge_of-new_numbers : (eq : CrateBuilder → CrateBuilder → Bool) (olds others : List CrateBuilder) (order : List ℕ) → length (merge_of eq olds others order).new_numbers ≡ length others
merge_of-new_numbers eq olds others order = fold-new_numbers eq (length olds) others (before_merge olds others) order ∙ before_merge-new_numbers olds others

-- an id is its number
same_id : (x y : Id) → number_of x ≡ number_of y → x ≡ y
same_id x y same = λ i. record { raw = same i; tag = x.tag }

module _ (cmp : Id → Id → Ordering) (ids : tree.BTreeMap Id Id) (new_numbers : List ℕ) (numbers : (id : Id) → option_map number_of (tree.get cmp ids id) ≡ slice_get new_numbers (number_of id)) where
  -- the answer gives the new number
  pub new_id-is : (id : Id) → number_of id < length new_numbers → new_id cmp ids id ≡ new_id_at new_numbers id
  new_id-is id within =
      let at : slice_get new_numbers (number_of id) ≡ Some (get_or new_numbers (number_of id) 0) = slice_get-get_or new_numbers (number_of id) 0 within in
      let cases : (o : Option Id) → option_map number_of o ≡ Some (get_or new_numbers (number_of id) 0) → unwrap_or o id ≡ new_id_at new_numbers id = λ o.
      elim o as (λ o. option_map number_of o ≡ Some (get_or new_numbers (number_of id) 0) → unwrap_or o id ≡ new_id_at new_numbers id) [
        | None ↦ λ is. cc
        | Some x ↦ λ is. let number : number_of x ≡ get_or new_numbers (number_of id) 0 = cc in same_id x (new_id_at new_numbers id) number
      ] in
      cases (tree.get cmp ids id) (numbers id ∙ at)

  -- the answer has a number for each crate of the other graph and for nothing else
  pub answered : (count : ℕ) → length new_numbers ≡ count → (id : Id) → IsSome (tree.get cmp ids id) ↔ (number_of id < count)
  answered count long id =
      let cases : (o : Option Id) → option_map number_of o ≡ slice_get new_numbers (number_of id) → IsSome o ↔ (number_of id < count) = λ o.
      elim o as (λ o. option_map number_of o ≡ slice_get new_numbers (number_of id) → IsSome o ↔ (number_of id < count)) [
        | None ↦ λ is. (λ some. absurd (false≢true some), λ within. let at = slice_get-get_or new_numbers (number_of id) 0 (omega (arith, within, long)) in cc)
        | Some x ↦ λ is. (λ some. omega (arith, slice_get_within new_numbers (number_of id) (number_of x) (sym is), long), λ within. refl)
      ] in
      cases (tree.get cmp ids id) (numbers id)

  -- entries go where the answer says
  pub moved_entry-is : {V : Type 0} (es : List (Id × V)) (id : Id) → All (λ key. number_of key < length new_numbers) (map (λ e. e.0) es) → moved_entry (new_id_at new_numbers) es id ≡ moved_entry (new_id cmp ids) es id
  moved_entry-is es id all = by es (recursion_from_All (λ key. number_of key < length new_numbers) (map (λ e. e.0) es) all)
    where
      by : {V : Type 0} (es : List (Id × V)) → AllByRecursion (λ key. number_of key < length new_numbers) (map (λ (e : Id × V). e.0) es) → moved_entry (new_id_at new_numbers) es id ≡ moved_entry (new_id cmp ids) es id
      by [] all = refl
      by (e ∷ es) all =
          let rest = by es all.1 in
          let same = sym (new_id-is e.0 all.0) in
          λ i. option_or (rest i) (cond (eqb (number_of (same i)) (number_of id)) (Some e.1) None)

  module _ (eq : CrateBuilder → CrateBuilder → Bool) (olds others crates : List CrateBuilder) (order : List ℕ) (long : length new_numbers ≡ length others) (in_range : IsInRange (edges others)) (all : (n : ℕ) → n < length others → Contains order n)
      (taken : IsTaken eq olds others order (record { crates = crates; new_numbers = new_numbers })) where
    pub equals : HasEquals eq (new_id cmp ids) others crates
    equals id krate is =
        let within = slice_get_within others (number_of id) krate is in
        let e = taken.equal (number_of id) krate (all (number_of id) within) is in
        let named = new_id-is id (omega (arith, within, long)) in
        let same : with_new_ids (new_id cmp ids) krate ≡ with_new_ids (new_id_at new_numbers) krate = renamed_same (new_id cmp ids) (new_id_at new_numbers) krate (λ dep c.
        new_id-is dep (omega (arith, long, in_range (number_of id) dep.raw (crate_edge others (number_of id) dep.raw krate is c), length-edges others))) in
        (e.0, subst (λ z. slice_get crates (number_of z) ≡ Some e.0) (sym named) e.1, subst (λ z. eq e.0 z ≡ true) (sym same) e.2)

    pub are_apart : AreApart (new_id cmp ids) olds others
    are_apart x y x_in y_in differ same =
        let x_is = ap number_of (new_id-is x (omega (arith, x_in, long))) in
        let y_is = ap number_of (new_id-is y (omega (arith, y_in, long))) in
        subst (λ z. z < length olds) (sym x_is) (taken.apart (number_of x) (number_of y) (all (number_of x) x_in) (all (number_of y) y_in) differ (sym x_is ∙ same ∙ y_is))

-- ---- the paths are clean

with_crate_at-clean : (j : Merge) (n : ℕ) (krate : CrateBuilder) (o : Option ℕ) → HasCleanMacroDirectory krate.basic → All (λ krate. HasCleanMacroDirectory krate.basic) j.crates → All (λ krate. HasCleanMacroDirectory krate.basic) (with_crate_at j n krate o).crates
with_crate_at-clean j n krate (Some place) here clean = clean
with_crate_at-clean j n krate None here clean =
    All-append (λ (krate : CrateBuilder). HasCleanMacroDirectory krate.basic) j.crates (krate ∷ []) clean (All-cons (λ (krate : CrateBuilder). HasCleanMacroDirectory krate.basic) krate [] here (All-nil (λ (krate : CrateBuilder). HasCleanMacroDirectory krate.basic)))

with_new_ids-clean : (new : Id → Id) (krate : CrateBuilder) → HasCleanMacroDirectory krate.basic → HasCleanMacroDirectory (with_new_ids new krate).basic
unfolding with_dependencies
with_new_ids-clean new krate clean = clean

with_sorted_dependencies-clean : (krate : CrateBuilder) → HasCleanMacroDirectory krate.basic → HasCleanMacroDirectory (with_sorted_dependencies krate).basic
unfolding with_dependencies
with_sorted_dependencies-clean krate clean = clean

module _ (eq : CrateBuilder → CrateBuilder → Bool) (olds : ℕ) (others : List CrateBuilder) (clean_others : All (λ krate. HasCleanMacroDirectory krate.basic) others) where
  take_in-clean : (j : Merge) (n : ℕ) → All (λ krate. HasCleanMacroDirectory krate.basic) j.crates → All (λ krate. HasCleanMacroDirectory krate.basic) (take_in eq olds others j n).crates
  unfolding take_in
  take_in-clean j n clean =
      elim (slice_get others n) as (λ o. slice_get others n ≡ o → All (λ krate. HasCleanMacroDirectory krate.basic) (unwrap_or (option_map (λ k. with_first_equal eq olds j n (with_new_ids (new_id_at j.new_numbers) k)) o) j).crates) [
        | Some krate ↦ λ is. with_crate_at-clean j n (with_new_ids (new_id_at j.new_numbers) krate) (position (λ old. eq old (with_new_ids (new_id_at j.new_numbers) krate)) (take olds j.crates)) (with_new_ids-clean (new_id_at j.new_numbers) krate (clean_at others n krate clean_others is)) clean
        | None ↦ λ is. clean
      ] refl

  fold-clean : (j : Merge) (ns : List ℕ) → All (λ krate. HasCleanMacroDirectory krate.basic) j.crates → All (λ krate. HasCleanMacroDirectory krate.basic) (fold (take_in eq olds others) j ns).crates
  fold-clean j [] clean = clean
  fold-clean j (n ∷ ns) clean = fold-clean (take_in eq olds others j n) ns (take_in-clean j n clean)

pub merge_of-clean : (eq : CrateBuilder → CrateBuilder → Bool) (olds others : List CrateBuilder) (order : List ℕ) → All (λ krate. HasCleanMacroDirectory krate.basic) olds → All (λ krate. HasCleanMacroDirectory krate.basic) others
    → All (λ krate. HasCleanMacroDirectory krate.basic) (merge_of eq olds others order).crates
merge_of-clean eq olds others order clean_olds clean_others =
    let start = All-map (λ (krate : CrateBuilder). HasCleanMacroDirectory krate.basic) with_sorted_dependencies olds (All-weaker (λ (krate : CrateBuilder). HasCleanMacroDirectory krate.basic) (λ (krate : CrateBuilder). HasCleanMacroDirectory (with_sorted_dependencies krate).basic) with_sorted_dependencies-clean olds clean_olds) in
    fold-clean eq (length olds) others clean_others (before_merge olds others) order start

-- there is one finish order, so that a graph that has room for all crates passes its limit in none
pub room_for_all : (eq : CrateBuilder → CrateBuilder → Bool) (old other : Graph) (order : List ℕ) → IsFinishOrder (edges other.crates) order → length (merge_of eq old.crates other.crates order).crates ≤ old.limit → PassesLimit eq old other → ⊥
room_for_all eq old other order is room passes =
    let same : order ≡ passes.order = visits_unique is passes.finish_order in
    omega (arith, room, passes.past, ap (λ o. length (merge_of eq old.crates other.crates o).crates) same)

-- the graph is acyclic and in range, since what is appended depends on lower numbers alone
module _ (eq : CrateBuilder → CrateBuilder → Bool) (olds others : List CrateBuilder) (finished : List ℕ) (j : Merge) (limit : ℕ) (made : IsWellMadeGraph olds limit) (taken : IsTaken eq olds others finished j) where
  old_edge : (a b : ℕ) → a < length olds → HasEdge (edges j.crates) a b → HasEdge (edges olds) a b
  old_edge a b within e =
      let krate = slice_get_some olds a within in
      let from = edge_crate j.crates a b e in
      let is : from.0 ≡ with_sorted_dependencies krate.0 = cc (from.1, taken.kept a krate.0 krate.1) in
      crate_edge olds a b krate.0 krate.1 (row-with_sorted_dependencies krate.0 b (subst (λ z. Contains (dependency_row z) b) is from.2))

  in_range_then : IsInRange (edges j.crates)
  in_range_then a b e = elim (cases_lt a (length olds)) [
    | inl old ↦ omega (arith, made.in_range a b (old_edge a b old e), length-edges olds, length-edges j.crates, taken.longer)
    | inr new ↦
        let from = edge_crate j.crates a b e in
        omega (arith, taken.lower a b new e, slice_get_within j.crates a from.0 from.1, length-edges j.crates)
  ]

  pub well_made-merge_of : length j.crates ≤ limit → All (λ krate. HasCleanMacroDirectory krate.basic) j.crates → ((g h : List (List ℕ)) → IsAcyclic g → IsInRange g → ((a b : ℕ) → a < length g → HasEdge h a b → HasEdge g a b) → ((a b : ℕ) → length g ≤ a → HasEdge h a b → b < a) → IsAcyclic h) → IsWellMadeGraph j.crates limit
  well_made-merge_of room clean above = record {
    fits = made.fits;
    within = room;
    in_range = in_range_then;
    acyclic = above (edges olds) (edges j.crates) made.acyclic made.in_range (λ a b within e. old_edge a b (omega (arith, within, length-edges olds)) e) (λ a b past e. taken.lower a b (omega (arith, past, length-edges olds)) e);
    clean = clean;
  }

  pub ranked-merge_of : (order : Ranking) (more : ℕ) → IsOrderOf order (edges olds) → length olds + more ≡ length j.crates → length j.crates ≤ limit → IsOrderOf (with_next_nodes more order) (edges j.crates)
  ranked-merge_of order more ranks long room =
      ranked-with_more order (edges olds) (edges j.crates) more ranks (omega (arith, long, length-edges olds, length-edges j.crates)) (omega (arith, room, made.fits, length-edges j.crates)) in_range_then
      (λ a b within e. old_edge a b (omega (arith, within, length-edges olds)) e) (λ a b past e. taken.lower a b (omega (arith, past, length-edges olds)) e)
