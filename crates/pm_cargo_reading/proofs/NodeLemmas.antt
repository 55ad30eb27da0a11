-- One more entry of a node, and one more node: where each is refused, and what it adds.
use Rattle.std.proofs.Common.{◌≡◌, ℕ, ◌-◌, ◌<◌, ◌≤◌, List, [], ◌∷◌, ◌++◌, length, get_or, Some, None, Ok, Err, true, false, refl, sym, ap, ◌∙◌, arith}
use Rattle.std.specs.Prelude.{bytes_eq}
use Rattle.std.specs.Cmp.Lexicographic.{nat_list_cmp_total, texts_ties}
use Rattle.std.specs.List.Sorted.{IsPartitionPoint, IsPartitionedBy, IsSorted}
use Rattle.std.specs.Ordering.{is_eq, is_le}
use Rattle.std.proofs.lemmas.List.{append-nil, get_or_default}
use Rattle.base_values.specs.ByText.{text_cmp}
use Rattle.base_values.specs.Sorted.{sorted}
use Rattle.cargo_meta_values.specs.declared.resolve.Node.{Node}
use Rattle.cargo_meta_values.specs.declared.resolve.NodeDep.{NodeDep}
use Rattle.pm_cargo_packages.specs.Ids.{package_id}
use Rattle.pm_cargo_packages.specs.declared.package.DepKind.{DepKind}
use Rattle.pm_cargo_packages.specs.declared.package.PackageData.{PackageData}
use Rattle.pm_cargo_packages.specs.declared.package.PackageDependency.{PackageDependency}
use Rattle.pm_cargo_reading.specs.Nodes.{by_package, dependencies_of_kinds, kinds_of, known_place, last_place, link_of, place_of_package, place_or_refusal, take_dependency, take_node, with_kinds}
use Rattle.pm_cargo_reading.specs.Packages.{by_package_id}
use Rattle.base_values.specs.Outcome.{◌>>=◌, take_each}
use Rattle.pm_cargo_reading.specs.Reading.{Reading, Refuses}
use Rattle.pm_cargo_reading.specs.declared.nodes.Link.{Link}
use Rattle.pm_cargo_reading.specs.declared.workspace_error.WorkspaceError.{WorkspaceError}
use Rattle.pm_cargo_reading.specs.declared.workspace_error.WorkspaceError.TheVariants.{UnknownPackage}
use Rattle.pm_cargo_reading.proofs.PlaceLemmas.{last_place-before_end, last_place-no_end, last_place-same, last_place-within, partitioned_at_most}
use Rattle.pm_cargo_reading.proofs.ReadingLemmas.{refuses_bind}

-- ---- the place of a package

-- the package at a place, whatever stands for one where there is none
pub package_at : (packages : List PackageData) (i : ℕ) (p d : PackageData) → i < length packages → p ≡ get_or packages i p → get_or packages i d ≡ p
package_at packages i p d within is = get_or_default packages i d p within ∙ sym is

module _ (packages : List PackageData) (id : List ℕ) where
  by_order : place_of_package packages id ≡ last_place (λ p. is_eq (text_cmp p.id.repr id)) packages
  unfolding place_of_package
  by_order = last_place-same (λ p. bytes_eq p.id.repr id) (λ p. is_eq (text_cmp p.id.repr id)) (λ p. texts_ties p.id.repr id) packages

  -- the place is one of the packages
  pub place_of_package-within : (place : ℕ) → place_of_package packages id ≡ Some place → place < length packages
  unfolding place_of_package
  place_of_package-within place is = last_place-within (λ p. bytes_eq p.id.repr id) packages place is

  module _ (order : IsSorted by_package_id packages) where
    -- packages up to an id come before those past it
    pub packages_split : IsPartitionedBy (λ p. is_le (text_cmp p.id.repr id)) packages
    packages_split = partitioned_at_most nat_list_cmp_total (λ p. p.id.repr) packages id order

    module _ (end : ℕ) (bound : end ≤ length packages)
        (split : IsPartitionPoint (λ p. is_le (text_cmp p.id.repr id) ≡ true) (λ p. is_le (text_cmp p.id.repr id) ≡ false) packages end) where
      -- the last of the packages up to the id has it
      pub place_of_package-last : 0 < end → ((d : PackageData) → is_eq (text_cmp (get_or packages (end - 1) d).id.repr id) ≡ true) → place_of_package packages id ≡ Some (end - 1)
      place_of_package-last some here = by_order ∙ last_place-before_end nat_list_cmp_total (λ p. p.id.repr) packages id order end bound split some here

      -- it has not
      pub place_of_package-none : (0 < end → (d : PackageData) → is_eq (text_cmp (get_or packages (end - 1) d).id.repr id) ≡ false) → place_of_package packages id ≡ None
      place_of_package-none other = by_order ∙ last_place-no_end nat_list_cmp_total (λ p. p.id.repr) packages id order end bound split other

  -- the id is known
  pub known_place-some : (place : ℕ) → place_of_package packages id ≡ Some place → known_place packages id ≡ Ok place
  known_place-some place is = ap (place_or_refusal id) is

  -- the id is that of no package
  pub known_place-none : (copy : List ℕ) → place_of_package packages id ≡ None → copy ≡ id → known_place packages id ≡ Err (UnknownPackage copy)
  known_place-none copy none same = ap (place_or_refusal id) none ∙ ap (λ t. Err (UnknownPackage t)) (sym same)

-- ---- one more entry

module _ (packages : List PackageData) (before : List PackageDependency) (d : NodeDep) where
  -- no kind is left
  pub dependency-none : (kinds : List DepKind) → kinds ≡ kinds_of d.dep_kinds → length kinds ≡ 0 → take_dependency packages before d ≡ Ok before
  unfolding take_dependency
  dependency-none kinds are none = ap (λ kinds. dependencies_of_kinds packages d kinds >>= λ more. Ok (before ++ more)) (sym are) ∙ by kinds none
    where
      by : (kinds : List DepKind) → length kinds ≡ 0 → (dependencies_of_kinds packages d kinds >>= λ more. Ok (before ++ more)) ≡ Ok before
      by [] none = ap Ok (append-nil before)
      by (kind ∷ kinds) none = absurd (omega (arith, none))

  -- a kind is left, and the package is not known
  pub dependency-unknown : (e : WorkspaceError) (kinds : List DepKind) → kinds ≡ kinds_of d.dep_kinds → 0 < length kinds → Refuses e (known_place packages d.pkg.repr)
      → Refuses e (take_dependency packages before d)
  unfolding take_dependency
  dependency-unknown e kinds are some h = rw (← are) (by kinds some)
    where
      by : (kinds : List DepKind) → 0 < length kinds → Refuses e (dependencies_of_kinds packages d kinds >>= λ more. Ok (before ++ more))
      by [] some = absurd (omega arith)
      by (kind ∷ kinds) some = refuses_bind e (known_place packages d.pkg.repr >>= λ place. Ok (with_kinds place d.name (kind ∷ kinds))) (λ more. Ok (before ++ more))
          (refuses_bind e (known_place packages d.pkg.repr) (λ place. Ok (with_kinds place d.name (kind ∷ kinds))) h)

  -- its dependencies are added
  pub dependency-added : (place : ℕ) (kinds : List DepKind) → kinds ≡ kinds_of d.dep_kinds → 0 < length kinds → known_place packages d.pkg.repr ≡ Ok place
      → take_dependency packages before d ≡ Ok (before ++ with_kinds place d.name kinds)
  unfolding take_dependency
  dependency-added place kinds are some is = ap (λ kinds. dependencies_of_kinds packages d kinds >>= λ more. Ok (before ++ more)) (sym are) ∙ by kinds some
    where
      by : (kinds : List DepKind) → 0 < length kinds → (dependencies_of_kinds packages d kinds >>= λ more. Ok (before ++ more)) ≡ Ok (before ++ with_kinds place d.name kinds)
      by [] some = absurd (omega arith)
      by (kind ∷ kinds) some = ap (λ (r : Reading ℕ). (r >>= λ place. Ok (with_kinds place d.name (kind ∷ kinds))) >>= λ more. Ok (before ++ more)) is

-- ---- one more node

module _ (packages : List PackageData) (node : Node) where
  -- the node's id is not known
  pub link-unknown : (e : WorkspaceError) → Refuses e (known_place packages node.id.repr) → Refuses e (link_of packages node)
  unfolding link_of
  link-unknown e h = refuses_bind e (known_place packages node.id.repr) _ h

  -- an entry is refused
  pub link-no_dependencies : (e : WorkspaceError) (source : ℕ) → known_place packages node.id.repr ≡ Ok source
      → Refuses e (take_each (take_dependency packages) [] (sorted by_package node.deps)) → Refuses e (link_of packages node)
  unfolding link_of
  link-no_dependencies e source is h = rw is
      (refuses_bind e (take_each (take_dependency packages) [] (sorted by_package node.deps))
      (λ dependencies. Ok (let link : Link = record { source = package_id source; dependencies = dependencies; features = node.features } in link)) h)

  -- what it gives
  pub link-is : (source : ℕ) (dependencies : List PackageDependency) → known_place packages node.id.repr ≡ Ok source
      → take_each (take_dependency packages) [] (sorted by_package node.deps) ≡ Ok dependencies
      → link_of packages node ≡ Ok (record { source = package_id source; dependencies = dependencies; features = node.features })
  unfolding link_of
  link-is source dependencies is taken = rw is (rw taken refl)

  module _ (links : List Link) where
    -- the node is refused
    pub node-refused : (e : WorkspaceError) → Refuses e (link_of packages node) → Refuses e (take_node packages links node)
    unfolding take_node
    node-refused e h = refuses_bind e (link_of packages node) (λ link. Ok (links ++ link ∷ [])) h

    -- the node is taken
    pub node-added : (link : Link) → link_of packages node ≡ Ok link → take_node packages links node ≡ Ok (links ++ link ∷ [])
    unfolding take_node
    node-added link is = ap (λ (r : Reading Link). r >>= λ link. Ok (links ++ link ∷ [])) is
