-- Every place that a package, a target or a link names is below the count of packages, and stays so.
use Rattle.std.proofs.Common.{◌≡◌, ℕ, ◌+◌, ◌<◌, ◌==◌, List, [], ◌∷◌, ◌++◌, length, map, Bool, true, false, cond, Option, Some, None, Ok, refl, ap, subst, ◌∙◌}
use Rattle.std.specs.List.{All, enumerate_from}
use Rattle.std.proofs.lemmas.List.Elements.{All-append, All-cons, All-head, All-map, All-nil, All-push, All-tail}
use Rattle.base_text_paths.specs.Arena.{number_of}
use Rattle.cargo_meta_values.specs.declared.resolve.Node.{Node}
use Rattle.cargo_meta_values.specs.declared.resolve.NodeDep.{NodeDep}
use Rattle.base_values.specs.Sorted.{sorted}
use Rattle.pm_cargo_packages.specs.declared.package.DepKind.{DepKind}
use Rattle.pm_cargo_packages.specs.declared.package.PackageData.{PackageData}
use Rattle.pm_cargo_packages.specs.declared.package.PackageDependency.{PackageDependency}
use Rattle.pm_cargo_reading.specs.Links.{dependencies_at}
use Rattle.pm_cargo_reading.specs.Nodes.{by_package, dependencies_of_kinds, kinds_of, known_place, link_of, links_of, place_of_package, place_or_refusal, take_dependency, take_node, with_kinds}
use Rattle.pm_cargo_reading.specs.Presence.{IsLinkWithin}
use Rattle.base_values.specs.Outcome.{take_each}
use Rattle.pm_cargo_reading.specs.declared.nodes.Link.{Link}
use Rattle.pm_cargo_reading.proofs.NodeLemmas.{place_of_package-within}
use Rattle.pm_cargo_reading.proofs.ReadingLemmas.{one_value, take_each-keeps}
use Rattle.base_values.proofs.Outcomes.{ok_from_bind}

-- ---- links

module _ (packages : List PackageData) where
  -- a known place is that of a package
  pub known_place-within : (id : List ℕ) (place : ℕ) → known_place packages id ≡ Ok place → place < length packages
  known_place-within id place is = by (place_of_package packages id) refl is
    where
      by : (o : Option ℕ) → place_of_package packages id ≡ o → place_or_refusal id o ≡ Ok place → place < length packages
      by (Some p) at e = place_of_package-within packages id place (at ∙ ap Some (one_value p place (Ok p) refl e))
      by None at e = cc

  kinds-within : (place : ℕ) (name : List ℕ) (kinds : List DepKind) → place < length packages → All (λ d. number_of d.pkg < length packages) (with_kinds place name kinds)
  kinds-within place name kinds below = All-map (λ (d : PackageDependency). number_of d.pkg < length packages) _ kinds (λ k d within. below)

  some_kinds-within : (d : NodeDep) (kinds : List DepKind) (more : List PackageDependency) → dependencies_of_kinds packages d kinds ≡ Ok more
      → All (λ d. number_of d.pkg < length packages) more
  some_kinds-within d [] more is = subst (All (λ (d : PackageDependency). number_of d.pkg < length packages)) (one_value [] more (Ok []) refl is) (All-nil (λ d. number_of d.pkg < length packages))
  some_kinds-within d (kind ∷ kinds) more is =
      let b = ok_from_bind (known_place packages d.pkg.repr) (λ place. Ok (with_kinds place d.name (kind ∷ kinds))) more is in
      subst (All (λ (d : PackageDependency). number_of d.pkg < length packages)) (one_value (with_kinds b.0 d.name (kind ∷ kinds)) more (Ok (with_kinds b.0 d.name (kind ∷ kinds))) refl b.2)
      (kinds-within b.0 d.name (kind ∷ kinds) (known_place-within d.pkg.repr b.0 b.1))

  dependency-within : (before after : List PackageDependency) (d : NodeDep) → All (λ d. number_of d.pkg < length packages) before
      → take_dependency packages before d ≡ Ok after → All (λ d. number_of d.pkg < length packages) after
  unfolding take_dependency
  dependency-within before after d all is =
      let b = ok_from_bind (dependencies_of_kinds packages d (kinds_of d.dep_kinds)) (λ more. Ok (before ++ more)) after is in
      subst (All (λ (d : PackageDependency). number_of d.pkg < length packages)) (one_value (before ++ b.0) after (Ok (before ++ b.0)) refl b.2)
      (All-append (λ (d : PackageDependency). number_of d.pkg < length packages) before b.0 all (some_kinds-within d (kinds_of d.dep_kinds) b.0 b.1))

  link-within : (node : Node) (link : Link) → link_of packages node ≡ Ok link → IsLinkWithin (length packages) link
  unfolding link_of
  link-within node link is =
      let b = ok_from_bind (known_place packages node.id.repr) _ link is in
      let c = ok_from_bind (take_each (take_dependency packages) [] (sorted by_package node.deps)) _ link b.2 in
      subst (IsLinkWithin (length packages)) (one_value _ link (Ok _) refl c.2) (record {
        source = known_place-within node.id.repr b.0 b.1;
        dependencies = take_each-keeps (take_dependency packages) (All (λ d. number_of d.pkg < length packages))
            (λ s n d all taken. dependency-within s n d all taken) [] c.0 (sorted by_package node.deps) (All-nil (λ d. number_of d.pkg < length packages)) c.1;
      })

  node-within : (before after : List Link) (node : Node) → All (IsLinkWithin (length packages)) before → take_node packages before node ≡ Ok after
      → All (IsLinkWithin (length packages)) after
  unfolding take_node
  node-within before after node all is =
      let b = ok_from_bind (link_of packages node) (λ link. Ok (before ++ link ∷ [])) after is in
      subst (All (IsLinkWithin (length packages))) (one_value (before ++ b.0 ∷ []) after (Ok (before ++ b.0 ∷ [])) refl b.2)
      (All-push (IsLinkWithin (length packages)) before b.0 all (link-within node b.0 b.1))

  -- what the nodes give names packages alone
  pub links-within : (nodes : List Node) (links : List Link) → links_of packages nodes ≡ Ok links → All (IsLinkWithin (length packages)) links
  links-within nodes links is =
      take_each-keeps (take_node packages) (All (IsLinkWithin (length packages))) (λ s n node all taken. node-within s n node all taken)
      [] links nodes (All-nil (IsLinkWithin (length packages))) is

-- ---- packages that are changed in place

module _ {X : Type 0} (f : ℕ × X → X) (P Q : X → Type 0) (keeps : (k : ℕ) (x : X) → P x → Q (f (k, x))) where
  -- what each change makes of an item holds of all
  pub changed-all : (n : ℕ) (xs : List X) → All P xs → All Q (map f (enumerate_from n xs))
  changed-all n [] all = All-nil Q
  changed-all n (x ∷ xs) all = All-cons Q (f (n, x)) (map f (enumerate_from (n + 1) xs)) (keeps n x (All-head P x xs all)) (changed-all (n + 1) xs (All-tail P x xs all))

module _ (count : ℕ) where
  -- the dependencies that the links give a package
  pub given-within : (links : List Link) (place : ℕ) → All (IsLinkWithin count) links → All (λ d. number_of d.pkg < count) (dependencies_at links place)
  given-within [] place all = All-nil (λ (d : PackageDependency). number_of d.pkg < count)
  given-within (l ∷ ls) place all =
      All-append (λ (d : PackageDependency). number_of d.pkg < count) (cond (number_of l.source == place) l.dependencies []) (dependencies_at ls place)
      (by (number_of l.source == place)) (given-within ls place (All-tail (IsLinkWithin count) l ls all))
    where
      by : (b : Bool) → All (λ (d : PackageDependency). number_of d.pkg < count) (cond b l.dependencies [])
      by true = (All-head (IsLinkWithin count) l ls all).dependencies
      by false = All-nil (λ (d : PackageDependency). number_of d.pkg < count)
