-- Members that reach each other share one list, and each list is the closure of its node.
use Rattle.std.proofs.Common.{◌≡◌, ℕ, ◌+◌, ◌<◌, zero, suc, inl, inr, List, [], ◌∷◌, Option, Some, None, Bool, true, false, cond, length, map, get_or, set, take, refl, sym, ap, subst, ◌∙◌, arith, true≢false}
use Rattle.std.specs.List.{All, Contains, filter, slice_get}
use Rattle.std.specs.Option.{is_some, option_map_or}
use Rattle.std.specs.Prelude.{replicate}
use Rattle.std.proofs.lemmas.Bool.{cases_eq, cases_lt}
use Rattle.std.proofs.lemmas.List.{length-map, length-replicate, length-set, set-get_or}
use Rattle.std.proofs.lemmas.List.Elements.{All-contains}
use Rattle.std.proofs.lemmas.Option.{slice_get_within}
use Rattle.base_text_paths.specs.declared.arena.Idx.{Idx}
use Rattle.graph_base.specs.Edges.{IsInRange}
use Rattle.graph_base.specs.Reach.{Reaches, further}
use Rattle.pm_cargo_packages.specs.declared.package.PackageData.{PackageData}
use Rattle.pm_cargo_packages.specs.declared.package.PackageTag.{PackageTag}
use Rattle.pm_cargo_members.specs.Closure.{closure}
use Rattle.pm_cargo_members.specs.Members.{is_member_at, member_graph, member_row, package_ids, place_of_dependency, with_member_deps}
use Rattle.pm_cargo_members.specs.SharedLists.{AreClosures, Lists, SharesList, closure_list}
use Rattle.pm_cargo_members.specs.declared.members.ClosureList.{ClosureList}
use Rattle.pm_cargo_members.proofs.ClosureLemmas.{closure_in, same_closure}
use Rattle.pm_cargo_members.proofs.EntryLemmas.{Contains-take_last, Contains-take_more, slice_get-set_other, slice_get-set_same}
use Rattle.pm_cargo_members.proofs.ListLemmas.{filter_in}
use Rattle.pm_cargo_packages.proofs.UpdateLemmas.{changed_upto, changed_upto-more, changed_upto-next, length-changed_upto}

-- ---- a list that is shared

module _ (closure : ClosureList) (old : Lists) where
  -- nothing is shared yet
  pub SharesList-none : SharesList [] closure old old
  SharesList-none = record { long = refl; each = λ k. inl refl }

  module _ (nodes : List ℕ) (i : ℕ) (now : Lists) (shared : SharesList (take i nodes) closure old now) where
    -- the next node is passed over
    pub SharesList-passed : SharesList (take (i + 1) nodes) closure old now
    SharesList-passed = record {
      long = shared.long;
      each = λ k. elim (shared.each k) [ inl same ↦ inl same | inr found ↦ inr (Contains-take_more nodes i k found.0, found.1, found.2) ];
    }

    -- the next node gets the list
    pub SharesList-more : (n : ℕ) → i < length nodes → n ≡ get_or nodes i n → Contains closure.places n → n < length now
        → SharesList (take (i + 1) nodes) closure old (set now n (Some closure.ids))
    SharesList-more n within is found below = record {
      long = length-set now n (Some closure.ids) ∙ shared.long;
      each = λ k. elim (cases_eq k n) [
        | inl same ↦ inr (
          subst (λ m. Contains (take (i + 1) nodes) m) (sym same) (Contains-take_last nodes i n within is),
          subst (λ m. Contains closure.places m) (sym same) found,
          ap (slice_get (set now n (Some closure.ids))) same ∙ slice_get-set_same now n (Some closure.ids) below,
        )
        | inr other ↦ elim (shared.each k) [
          | inl same ↦ inl (slice_get-set_other now n k (Some closure.ids) other ∙ same)
          | inr has ↦ inr (Contains-take_more nodes i k has.0, has.1, slice_get-set_other now n k (Some closure.ids) other ∙ has.2)
        ]
      ];
    }

-- ---- the lists of closures

module _ (graph : List (List ℕ)) (node : ℕ) where
  -- the list is that of each node that is reached and that reaches back
  same_list : IsInRange graph → (k : ℕ) → Contains (closure graph node) k → Reaches graph k node → package_ids (closure graph node) ≡ package_ids (closure graph k)
  same_list in_range k found back =
      let leads = closure_in graph node k found in
      ap package_ids (same_closure graph node k in_range (further leads.1 leads.2) back)

  -- after the list is shared, each list is still the closure of its node
  pub AreClosures-shared : IsInRange graph → (nodes : List ℕ) (old now : Lists) → All (λ n. Reaches graph n node) nodes → AreClosures graph node old
      → SharesList nodes (closure_list graph node) old now → AreClosures graph node now
  AreClosures-shared in_range nodes old now reach closures shared =
      let same = λ (k : ℕ) (at : Contains nodes k) (found : Contains (closure graph node) k).
      same_list in_range k found (All-contains (λ n. Reaches graph n node) nodes k reach at) in
      record {
        long = shared.long ∙ closures.long;
        there = λ k below. elim (shared.each k) [
          | inl kept ↦ kept ∙ closures.there k below
          | inr has ↦ has.2 ∙ ap (λ l. Some (Some l)) (same k has.0 has.1)
        ];
        right = λ k list is. elim (shared.each k) [
          | inl kept ↦ closures.right k list (sym kept ∙ is)
          | inr has ↦ inner _ _ (sym is ∙ has.2) ∙ same k has.0 has.1
        ];
      }
    where
      inner : (x y : List (Idx PackageTag)) → Some (Some x) ≡ Some (Some y) → x ≡ y
      inner x y e = cc

  -- the node has its list
  pub AreClosures-listed : (lists : Lists) → node < length graph → AreClosures graph node lists
      → AreClosures graph (node + 1) (set lists node (Some (package_ids (closure graph node))))
  AreClosures-listed lists within closures =
      let v : Option (List (Idx PackageTag)) = Some (package_ids (closure graph node)) in
      let room : node < length lists = omega (arith, closures.long) in
      record {
        long = length-set lists node v ∙ closures.long;
        there = λ k below. elim (cases_eq k node) [
          | inl same ↦ ap (slice_get (set lists node v)) same ∙ slice_get-set_same lists node v room ∙ ap (λ n. Some (Some (package_ids (closure graph n)))) (sym same)
          | inr other ↦ slice_get-set_other lists node k v other ∙ closures.there k (omega (arith, other))
        ];
        right = λ k list is. elim (cases_eq k node) [
          | inl same ↦
              let here : slice_get (set lists node v) k ≡ Some v = ap (slice_get (set lists node v)) same ∙ slice_get-set_same lists node v room in
              let e : Some (Some list) ≡ Some v = sym is ∙ here in
              let l : list ≡ package_ids (closure graph node) = cc in
              l ∙ ap (λ n. package_ids (closure graph n)) (sym same)
          | inr other ↦ closures.right k list (sym (slice_get-set_other lists node k v other) ∙ is)
        ];
      }

  -- the node had its list already
  pub AreClosures-had : (lists : Lists) (list : List (Idx PackageTag)) → slice_get lists node ≡ Some (Some list) → AreClosures graph node lists → AreClosures graph (node + 1) lists
  AreClosures-had lists list is closures = record {
    long = closures.long;
    there = λ k below. elim (cases_lt k node) [
      | inl before ↦ closures.there k before
      | inr after ↦
          let same : k ≡ node = omega (arith, after, below) in
          ap (slice_get lists) same ∙ is ∙ ap (λ l. Some (Some l)) (closures.right node list is) ∙ ap (λ n. Some (Some (package_ids (closure graph n)))) (sym same)
    ];
    right = closures.right;
  }

-- the same, where a test says that there is a list
pub AreClosures-some : (graph : List (List ℕ)) (node : ℕ) (lists : Lists) (o : Option (List (Idx PackageTag))) → is_some o ≡ true → slice_get lists node ≡ Some o
    → AreClosures graph node lists → AreClosures graph (node + 1) lists
AreClosures-some graph node lists (Some list) some is closures = AreClosures-had graph node lists list is closures
AreClosures-some graph node lists None some is closures = absurd (true≢false (sym some))

-- no node has a list
pub AreClosures-none : (graph : List (List ℕ)) (lists : Lists) → lists ≡ replicate (length graph) None → AreClosures graph 0 lists
AreClosures-none graph lists are = subst (AreClosures graph 0) (sym are) (record {
  long = length-replicate (length graph) None;
  there = λ k below. absurd (omega arith);
  right = λ k list is. absurd (none (length graph) k list is);
})
  where
    none : (n k : ℕ) (list : List (Idx PackageTag)) → slice_get (replicate n None) k ≡ Some (Some list) → ⊥
    none zero k list is = cc
    none (suc n) zero list is = cc
    none (suc n) (suc k) list is = none n k list is

-- ---- the graph of members

is_member_within : (packages : List PackageData) (place : ℕ) → is_member_at packages place ≡ true → place < length packages
is_member_within packages place is = by (slice_get packages place) refl is
  where
    by : (o : Option PackageData) → slice_get packages place ≡ o → option_map_or (λ p. p.is_member) o false ≡ true → place < length packages
    by (Some p) e h = slice_get_within packages place p e
    by None e h = absurd (true≢false (sym h))

-- the row of a member, and of a package that is none
pub member_row-member : (packages : List PackageData) (p : PackageData) → p.is_member ≡ true
    → filter (is_member_at packages) (map place_of_dependency p.dependencies) ≡ member_row packages p
unfolding member_row
member_row-member packages p is = ap (λ b. cond b (filter (is_member_at packages) (map place_of_dependency p.dependencies)) []) (sym is)

pub member_row-none : (packages : List PackageData) (p : PackageData) → p.is_member ≡ false → [] ≡ member_row packages p
unfolding member_row
member_row-none packages p is = ap (λ b. cond b (filter (is_member_at packages) (map place_of_dependency p.dependencies)) []) (sym is)

row_within : (packages : List PackageData) (p : PackageData) (b : ℕ) → Contains (member_row packages p) b → b < length packages
unfolding member_row
row_within packages p b found = by p.is_member found
  where
    by : (m : Bool) → Contains (cond m (filter (is_member_at packages) (map place_of_dependency p.dependencies)) []) b → b < length packages
    by true h = is_member_within packages b (filter_in (is_member_at packages) (map place_of_dependency p.dependencies) b h).1
    by false h = absurd (omega (arith, h.1))

-- what a row of a mapped list has, the function gives for an item
row_from_map : {X : Type 0} (f : X → List ℕ) (xs : List X) (a b : ℕ) → Contains (get_or (map f xs) a []) b → (x : X) × Contains (f x) b
row_from_map f [] a b found = absurd (omega (arith, found.1))
row_from_map f (x ∷ xs) zero b found = (x, found)
row_from_map f (x ∷ xs) (suc a) b found = row_from_map f xs a b found

-- each edge leads to a package
pub member_graph-in_range : (packages : List PackageData) → IsInRange (member_graph packages)
member_graph-in_range packages a b edge =
    let from = row_from_map (member_row packages) packages a b edge in
    let below : b < length packages = row_within packages from.0 b from.1 in
    omega (arith, below, length-map packages (member_row packages))

-- the package at a place, with its list
pub with_member_deps-member : (graph : List (List ℕ)) (place : ℕ) (p : PackageData) (list : Option (List (Idx PackageTag))) → p.is_member ≡ true
    → list ≡ Some (package_ids (closure graph place)) → record p { all_member_deps = list } ≡ with_member_deps graph (place, p)
with_member_deps-member graph place p list is found =
    ap (λ l. record p { all_member_deps = l }) found ∙ ap (λ b. cond b (record p { all_member_deps = Some (package_ids (closure graph place)) }) p) (sym is)

pub with_member_deps-none : (graph : List (List ℕ)) (place : ℕ) (p : PackageData) → p.is_member ≡ false → p ≡ with_member_deps graph (place, p)
with_member_deps-none graph place p is = ap (λ b. cond b (record p { all_member_deps = Some (package_ids (closure graph place)) }) p) (sym is)

module _ (packages now : List PackageData) (graph : List (List ℕ)) (place : ℕ) (upto : now ≡ changed_upto (with_member_deps graph) 0 place packages) (within : place < length now) where
  -- one more package has its list
  pub with_member_deps-more : (p new : PackageData) → p ≡ get_or now place p → new ≡ with_member_deps graph (place, p)
      → set now place new ≡ changed_upto (with_member_deps graph) 0 (place + 1) packages
  with_member_deps-more p new is given =
      let f = with_member_deps graph in
      let long : place < length packages = omega (arith, within, ap length upto, length-changed_upto f 0 place packages) in
      let old : p ≡ get_or packages place p = is ∙ ap (λ l. get_or l place p) upto ∙ changed_upto-next f 0 place packages p in
      let at : 0 + place ≡ place = omega arith in
      let next : suc place ≡ place + 1 = omega arith in
      ap (λ l. set l place new) upto ∙ ap (set (changed_upto f 0 place packages) place) (given ∙ ap (λ n. f (n, p)) (sym at))
      ∙ changed_upto-more f 0 place packages p long old ∙ ap (λ n. changed_upto f 0 n packages) next

  -- one more package is none of a member
  pub with_member_deps-passed : (p : PackageData) → p ≡ get_or now place p → p.is_member ≡ false → now ≡ changed_upto (with_member_deps graph) 0 (place + 1) packages
  with_member_deps-passed p is none =
      sym (set-get_or now place p) ∙ ap (set now place) (sym is) ∙ with_member_deps-more p p is (with_member_deps-none graph place p none)
