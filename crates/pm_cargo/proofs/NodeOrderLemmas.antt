-- The order of nodes and of their entries leaves no trace in what they give a package.
use Rattle.std.proofs.Common.{◌≡◌, ℕ, ◌==◌, suc, List, [], ◌∷◌, ◌++◌, Bool, true, false, ◌&&◌, not, cond, Option, Some, None, Ok, Err, map, get_or, refl, sym, ap, subst, ◌∙◌, append_assoc}
use Rattle.std.specs.Prelude.{bytes_eq}
use Rattle.std.specs.Cmp.{IsTotalOrder, on_total}
use Rattle.std.specs.Cmp.Lexicographic.{bytes_decides, nat_list_cmp_total}
use Rattle.std.specs.List.{filter, flat_map}
use Rattle.std.specs.List.Sorted.{ties}
use Rattle.std.specs.Option.{option_map, option_or}
use Rattle.std.specs.Ordering.{is_lt, ordering_reverse}
use Rattle.std.specs.declared.cmp.Ordering.{Ordering}
use Rattle.std.specs.declared.cmp.Ordering.TheVariants.{Less, Equal, Greater}
use Rattle.std.proofs.lemmas.Bool.{eqb-true, true≢false}
use Rattle.std.proofs.lemmas.Grind.{flat_map-append}
use Rattle.std.proofs.lemmas.List.{append-nil}
use Rattle.base_values.specs.ByText.{text_cmp}
use Rattle.base_values.specs.Sorted.{sorted}
use Rattle.base_text_paths.specs.Arena.{number_of}
use Rattle.base_values.proofs.InOrder.{sorted-IsSorted, sorted-IsStable, sorted-of_sorted}
use Rattle.cargo_meta_values.specs.declared.resolve.Node.{Node}
use Rattle.cargo_meta_values.specs.declared.resolve.NodeDep.{NodeDep}
use Rattle.pm_cargo_packages.specs.declared.package.PackageData.{PackageData}
use Rattle.pm_cargo_packages.specs.Ids.{package_id}
use Rattle.pm_cargo_reading.specs.Links.{dependencies_at, features_at, package_with_links, with_links}
use Rattle.pm_cargo_reading.specs.Nodes.{by_package, known_place, last_place, link_of, links_of, place_of_package, place_or_refusal, take_dependency, take_node}
use Rattle.base_values.specs.Outcome.{◌>>=◌, take_each}
use Rattle.pm_cargo_reading.specs.Reading.{Reading}
use Rattle.pm_cargo_reading.specs.declared.nodes.Link.{Link}
use Rattle.pm_cargo_reading.proofs.ReadingLemmas.{one_value}
use Rattle.base_values.proofs.Outcomes.{ok_from_bind}
use Rattle.pm_cargo_packages.proofs.UpdateLemmas.{changed-same}
use Rattle.pm_cargo.specs.Shuffle.{by_node, with_sorted_entries}

by_node_total : IsTotalOrder by_node
by_node_total = on_total (λ (n : Node). n.id.repr) nat_list_cmp_total

by_package_total : IsTotalOrder by_package
by_package_total = on_total (λ (d : NodeDep). d.pkg.repr) nat_list_cmp_total

-- ---- texts that are one

is_lt-same : {K : Type 0} {R : K → K → Ordering} → IsTotalOrder R → (x y : K) → x ≡ y → is_lt (R x y) ≡ false
is_lt-same {R = R} o x y same = subst (λ z. is_lt (R x z) ≡ false) same (by (R x x) (o.antisymm x x))
  where
    by : (r : Ordering) → r ≡ ordering_reverse r → is_lt r ≡ false
    by Less e = cc
    by Equal e = refl
    by Greater e = refl

is_tied : (x y : List ℕ) → x ≡ y → (not (is_lt (text_cmp x y)) && not (is_lt (text_cmp y x))) ≡ true
is_tied x y same = (λ i. not (is_lt-same nat_list_cmp_total x y same i) && not (is_lt-same nat_list_cmp_total y x (sym same) i))

-- ---- lists that are gone through by key

module _ {X V : Type 0} where
  -- items that give nothing may be left out
  flat_map-filter : (f : X → List V) (p : X → Bool) → ((x : X) → p x ≡ false → f x ≡ []) → (xs : List X) → flat_map f (filter p xs) ≡ flat_map f xs
  flat_map-filter f p none [] = refl
  flat_map-filter f p none (x ∷ xs) = by (p x) refl (flat_map-filter f p none xs)
    where
      by : (b : Bool) → p x ≡ b → flat_map f (filter p xs) ≡ flat_map f xs → flat_map f (cond b (x ∷ filter p xs) (filter p xs)) ≡ f x ++ flat_map f xs
      by true is rest = ap (λ l. f x ++ l) rest
      by false is rest = rest ∙ ap (λ l. l ++ flat_map f xs) (sym (none x is))

  -- what only the items of one key give leaves no trace of the order of other items
  flat_map-sorted : {cmp : X → X → Ordering} → IsTotalOrder cmp → (f : X → List V) (t : X)
      → ((x : X) → ties (λ a b. is_lt (cmp a b)) t x ≡ false → f x ≡ []) → (xs : List X) → flat_map f (sorted cmp xs) ≡ flat_map f xs
  flat_map-sorted {cmp = cmp} o f t none xs =
      let p : X → Bool = ties (λ a b. is_lt (cmp a b)) t in
      sym (flat_map-filter f p none (sorted cmp xs)) ∙ ap (flat_map f) (sorted-IsStable o xs t) ∙ flat_map-filter f p none xs

  -- what a change of each item leaves, the changed list leaves
  flat_map-map : (f : X → List V) (g : X → X) → ((x : X) → f (g x) ≡ f x) → (xs : List X) → flat_map f (map g xs) ≡ flat_map f xs
  flat_map-map f g same [] = refl
  flat_map-map f g same (x ∷ xs) = let rest = flat_map-map f g same xs in (λ i. same x i ++ rest i)

-- ---- what nodes give

-- what a function gives of a link, where the reading has one
abbrev from_link : {V : Type 0} → (Link → List V) → Reading Link → List V
from_link f (Ok link) = f link
from_link f (Err e) = []

module _ (packages : List PackageData) where
  -- a node whose entries are sorted gives the same
  link-sorted_entries : (node : Node) → link_of packages (with_sorted_entries node) ≡ link_of packages node
  unfolding link_of
  link-sorted_entries node =
      ap (λ deps. known_place packages node.id.repr >>= λ place. take_each (take_dependency packages) [] deps >>= λ dependencies.
      Ok (record { source = package_id place; dependencies = dependencies; features = node.features }))
      (sorted-of_sorted by_package_total (sorted by_package node.deps) (sorted-IsSorted by_package_total node.deps))

  -- links that are all read give what the nodes give one by one
  links-from : {V : Type 0} (f : Link → List V) (before after : List Link) (nodes : List Node) → take_each (take_node packages) before nodes ≡ Ok after
      → flat_map f after ≡ flat_map f before ++ flat_map (λ n. from_link f (link_of packages n)) nodes
  unfolding take_each take_node
  links-from f before after [] is = ap (flat_map f) (one_value after before (Ok after) refl (sym is)) ∙ sym (append-nil (flat_map f before))
  links-from f before after (n ∷ ns) is =
      let b = ok_from_bind (take_node packages before n) (λ next. take_each (take_node packages) next ns) after is in
      let c = ok_from_bind (link_of packages n) (λ link. Ok (before ++ link ∷ [])) b.0 b.1 in
      let one : b.0 ≡ before ++ c.0 ∷ [] = one_value b.0 (before ++ c.0 ∷ []) (Ok b.0) refl (sym c.2) in
      let rest = flat_map (λ n. from_link f (link_of packages n)) ns in
      let given : f c.0 ++ [] ≡ from_link f (link_of packages n) = append-nil (f c.0) ∙ ap (from_link f) (sym c.1) in
      links-from f b.0 after ns b.2
      ∙ ap (λ l. l ++ rest) (ap (flat_map f) one ∙ flat_map-append f before (c.0 ∷ []))
      ∙ append_assoc (flat_map f before) (f c.0 ++ []) rest
      ∙ ap (λ l. flat_map f before ++ (l ++ rest)) given

-- the key of the last item whose key passes a test passes it
last_place-passes : {X K : Type 0} (key : X → K) (p : K → Bool) (xs : List X) (k : ℕ) (d : K) → last_place (λ x. p (key x)) xs ≡ Some k → p (get_or (map key xs) k d) ≡ true
last_place-passes key p [] k d is = cc
last_place-passes {K = K} key p (x ∷ xs) k d is = by (last_place (λ x. p (key x)) xs) refl is (λ n at. last_place-passes key p xs n d at)
  where
    here : (b : Bool) → p (key x) ≡ b → cond b (Some 0) None ≡ Some k → p (get_or (map key (x ∷ xs)) k d) ≡ true
    here true passes e = let at : k ≡ 0 = cc in subst (λ n. p (get_or (map key (x ∷ xs)) n d) ≡ true) (sym at) passes
    here false passes e = cc

    by : (o : Option ℕ) → last_place (λ x. p (key x)) xs ≡ o → option_or (option_map suc o) (cond (p (key x)) (Some 0) None) ≡ Some k
        → ((n : ℕ) → last_place (λ x. p (key x)) xs ≡ Some n → p (get_or (map key xs) n d) ≡ true) → p (get_or (map key (x ∷ xs)) k d) ≡ true
    by (Some n) at e rest =
        let next : k ≡ suc n = cc in
        subst (λ m. p (get_or (map key (x ∷ xs)) m d) ≡ true) (sym next) (rest n at)
    by None at e rest = here (p (key x)) refl e

module _ (packages : List PackageData) (place : ℕ) where
  -- the id of the package at the place
  abbrev id_at : List ℕ
  id_at = get_or (map (λ p. p.id.repr) packages) place []

  -- a known place is that of the id
  known_place-id : (id : List ℕ) → known_place packages id ≡ Ok place → id_at ≡ id
  unfolding place_of_package
  known_place-id id is = by (place_of_package packages id) refl is
    where
      by : (o : Option ℕ) → place_of_package packages id ≡ o → place_or_refusal id o ≡ Ok place → id_at ≡ id
      by (Some n) at e =
          let same : place ≡ n = one_value place n (Ok place) refl (sym e) in
          (bytes_decides id_at id).0 (last_place-passes (λ (p : PackageData). p.id.repr) (λ i. bytes_eq i id) packages place [] (at ∙ ap Some (sym same)))
      by None at e = cc

  -- a node gives to the place alone that its id has
  link-place : (node : Node) (link : Link) → link_of packages node ≡ Ok link → number_of link.source ≡ place → id_at ≡ node.id.repr
  unfolding link_of
  link-place node link is here =
      let b = ok_from_bind (known_place packages node.id.repr) (λ place. take_each (take_dependency packages) [] (sorted by_package node.deps) >>= λ dependencies.
      Ok (record { source = package_id place; dependencies = dependencies; features = node.features })) link is in
      let c = ok_from_bind (take_each (take_dependency packages) [] (sorted by_package node.deps))
      (λ dependencies. Ok (record { source = package_id b.0; dependencies = dependencies; features = node.features })) link b.2 in
      let source : number_of link.source ≡ b.0 = ap (λ (l : Link). number_of l.source) (one_value link _ (Ok link) refl (sym c.2)) in
      known_place-id node.id.repr (b.1 ∙ ap Ok (sym source ∙ here))

  module _ {V : Type 0} (f : Link → List V) where
    -- what a link gives to the place
    abbrev at_place : Link → List V
    at_place link = cond (number_of link.source == place) (f link) []

    -- a node of another id gives it nothing
    gives_nothing : (node : Node) → (id_at ≡ node.id.repr → ⊥) → from_link at_place (link_of packages node) ≡ []
    gives_nothing node other = by (link_of packages node) refl
      where
        here : (link : Link) → link_of packages node ≡ Ok link → (b : Bool) → (number_of link.source == place) ≡ b → cond b (f link) [] ≡ []
        here link is true e = absurd (other (link-place node link is (eqb-true (number_of link.source) place e)))
        here link is false e = refl

        by : (r : Reading Link) → link_of packages node ≡ r → from_link at_place r ≡ []
        by (Ok link) is = here link is (number_of link.source == place) refl
        by (Err e) is = refl

    -- what nodes give to the place, in the order of their ids or not, with sorted entries or not
    given-sorted : (nodes : List Node)
        → flat_map (λ n. from_link at_place (link_of packages n)) (map with_sorted_entries (sorted by_node nodes)) ≡ flat_map (λ n. from_link at_place (link_of packages n)) nodes
    given-sorted nodes =
        let g : Node → List V = λ n. from_link at_place (link_of packages n) in
        let t : Node = record { id = record { repr = id_at }; deps = []; dependencies = []; features = [] } in
        flat_map-map g with_sorted_entries (λ n. ap (from_link at_place) (link-sorted_entries packages n)) (sorted by_node nodes)
        ∙ flat_map-sorted by_node_total g t (λ n apart. gives_nothing n (λ same. true≢false (sym (is_tied id_at n.id.repr same) ∙ apart))) nodes

    -- links that are all read from nodes give to the place what the nodes in order give
    links-at : (links : List Link) (nodes : List Node) → links_of packages nodes ≡ Ok links
        → flat_map at_place links ≡ flat_map (λ n. from_link at_place (link_of packages n)) (map with_sorted_entries (sorted by_node nodes))
    links-at links nodes is = links-from packages at_place [] links nodes is ∙ sym (given-sorted nodes)

-- ---- packages with what nodes give them

-- nodes that are equal once they are in order give packages the same
pub with_links-in_order : (packages : List PackageData) (nodes others : List Node) (links more : List Link) → links_of packages nodes ≡ Ok links → links_of packages others ≡ Ok more
    → map with_sorted_entries (sorted by_node nodes) ≡ map with_sorted_entries (sorted by_node others) → with_links links packages ≡ with_links more packages
unfolding with_links
with_links-in_order packages nodes others links more is are same = changed-same (package_with_links links) (package_with_links more) one 0 packages
  where
    alike : (place : ℕ) {V : Type 0} (f : Link → List V) → flat_map (at_place packages place f) links ≡ flat_map (at_place packages place f) more
    alike place f =
        links-at packages place f links nodes is
        ∙ ap (flat_map (λ n. from_link (at_place packages place f) (link_of packages n))) same
        ∙ sym (links-at packages place f more others are)

    one : (p : ℕ × PackageData) → package_with_links links p ≡ package_with_links more p
    one p =
        let ds : dependencies_at links p.0 ≡ dependencies_at more p.0 = alike p.0 (λ l. l.dependencies) in
        let fs : features_at links p.0 ≡ features_at more p.0 = alike p.0 (λ l. l.features) in
        (λ i. record p.1 { dependencies = p.1.dependencies ++ ds i; active_features = p.1.active_features ++ fs i })
