-- Every id that packages and targets hold is that of one of them: as they are taken, and with what links give them.
use Rattle.std.proofs.Common.{◌≡◌, ℕ, ◌+◌, ◌-◌, ◌<◌, ◌≤◌, ◌^◌, suc, List, [], ◌∷◌, ◌++◌, length, map, Option, Some, None, Ok, refl, sym, ap, subst, arith, length-append}
use Rattle.std.specs.List.{All, enumerate_from, range_with_len}
use Rattle.std.specs.Option.{IfSome}
use Rattle.std.proofs.lemmas.List.Elements.{All-append, All-map, All-nil, All-push, All-weaker}
use Rattle.std.proofs.lemmas.List.FromFn.{get_or-range_with_len, length-range_with_len}
use Rattle.base_text_outside.specs.declared.limits.Limits.{Limits}
use Rattle.base_text_paths.specs.Arena.{number_of}
use Rattle.base_text_paths.specs.declared.arena.Idx.{Idx}
use Rattle.base_values.specs.Sorted.{sorted}
use Rattle.cargo_meta_values.specs.declared.names.PackageId.{PackageId}
use Rattle.cargo_meta.specs.declared.package.Package.{Package}
use Rattle.cargo_meta_values.specs.declared.resolve.Node.{Node}
use Rattle.pm_cargo_packages.specs.Ids.{target_id}
use Rattle.pm_cargo_packages.specs.declared.package.PackageData.{PackageData}
use Rattle.pm_cargo_packages.specs.declared.package.PackageTag.{PackageTag}
use Rattle.pm_cargo_packages.specs.declared.target.TargetTag.{TargetTag}
use Rattle.pm_cargo_reading.specs.Links.{dependencies_at, linked_packages, package_with_links, with_links}
use Rattle.pm_cargo_reading.specs.Nodes.{links_of}
use Rattle.pm_cargo_reading.specs.Presence.{HoldsIds, HoldsItsIds, IsLinkWithin}
use Rattle.pm_cargo_reading.specs.Packages.{contents_of, by_id, ids_between, is_listed, take_package, unresolved_package}
use Rattle.pm_cargo_reading.specs.declared.contents.Contents.{Contents}
use Rattle.pm_cargo_reading.specs.declared.nodes.Link.{Link}
use Rattle.pm_cargo_reading.proofs.ContentsLemmas.{package-from, targets-more, targets-of}
use Rattle.pm_cargo_reading.proofs.ReadingLemmas.{one_value, take_each-keeps}
use Rattle.base_values.proofs.Outcomes.{ok_from_bind}
use Rattle.pm_cargo_reading.proofs.WithinLemmas.{changed-all, given-within, links-within}

-- ---- packages that are taken

-- the ids from one place up to another are below it
pub ids_between-below : (first end : ℕ) → All (λ t. number_of t < end) (ids_between first end)
ids_between-below first end =
    All-map (λ (t : Idx TargetTag). number_of t < end) target_id (range_with_len first (end - first)) (λ k d within.
    let below : k < end - first = omega (arith, within, length-range_with_len first (end - first)) in
    omega (arith, get_or-range_with_len first (end - first) k d below, below))

-- each package holds ids of targets that are there, and each target the id of a package
pub record AreTaken (c : Contents) : Type 0 where
  pub packages : All (λ p. HoldsIds (length c.packages) (length c.targets) p) c.packages
  pub targets : All (λ t. number_of t.package < length c.packages) c.targets

-- more room holds what less room does
HoldsIds-more : (m n k l : ℕ) (p : PackageData) → m ≤ n → k ≤ l → HoldsIds m k p → HoldsIds n l p
HoldsIds-more m n k l p up over h = record {
  targets = All-weaker (λ t. number_of t < k) (λ t. number_of t < l) (λ t b. omega (arith, b, over)) p.targets h.targets;
  dependencies = All-weaker (λ d. number_of d.pkg < m) (λ d. number_of d.pkg < n) (λ d b. omega (arith, b, up)) p.dependencies h.dependencies;
  member_deps = by p.all_member_deps h.member_deps;
}
  where
    by : (o : Option (List (Idx PackageTag))) → IfSome o (λ ids. All (λ id. number_of id < m) ids) → IfSome o (λ ids. All (λ id. number_of id < n) ids)
    by (Some ids) all = All-weaker (λ id. number_of id < m) (λ id. number_of id < n) (λ id b. omega (arith, b, up)) ids all
    by None all = all

module _ (members : List PackageId) (limits : Limits) where
  taken_more : (s n : Contents) (p : Package) → AreTaken s → take_package members limits s p ≡ Ok n → AreTaken n
  taken_more s n p h is =
      let from = package-from members limits s n p is in
      let targets = from.1 in
      let u = unresolved_package (is_listed members p.id) from.0 (ids_between (length s.targets) (length targets)) p in
      let room : length (s.packages ++ u ∷ []) ≡ length s.packages + 1 = omega (arith, length-append {A = PackageData}) in
      let more = targets-more limits.targets (length s.packages) from.0 s.targets targets p.targets from.3 in
      let old : All (λ q. HoldsIds (length (s.packages ++ u ∷ [])) (length targets) q) s.packages =
      All-weaker (HoldsIds (length s.packages) (length s.targets)) (HoldsIds (length (s.packages ++ u ∷ [])) (length targets))
      (λ q. HoldsIds-more (length s.packages) (length (s.packages ++ u ∷ [])) (length s.targets) (length targets) q (omega (arith, room)) more) s.packages h.packages in
      let owners : All (λ t. number_of t.package < length (s.packages ++ u ∷ [])) s.targets =
      All-weaker (λ t. number_of t.package < length s.packages) (λ t. number_of t.package < length (s.packages ++ u ∷ []))
      (λ t b. omega (arith, b, room)) s.targets h.targets in
      subst AreTaken (sym from.4) (record {
        packages = All-push (HoldsIds (length (s.packages ++ u ∷ [])) (length targets)) s.packages u old (record {
          targets = ids_between-below (length s.targets) (length targets);
          dependencies = All-nil (λ d. number_of d.pkg < length (s.packages ++ u ∷ []));
          member_deps = tt;
        });
        targets = targets-of limits.targets (length s.packages) from.0 (length (s.packages ++ u ∷ [])) (omega (arith, room)) s.targets targets p.targets owners from.3;
      })

  pub contents-taken : (after : Contents) (ps : List Package) → contents_of members limits ps ≡ Ok after → AreTaken after
  unfolding contents_of
  contents-taken after ps is =
      take_each-keeps (take_package members limits) AreTaken (λ s n p h taken. taken_more s n p h taken) (record { packages = []; targets = [] }) after (sorted by_id ps)
      (record { packages = All-nil (HoldsIds 0 0); targets = All-nil (λ t. number_of t.package < 0) }) is

-- ---- packages with what the document resolved to

module _ {X : Type 0} (f : ℕ × X → X) where
  pub length-changed : (n : ℕ) (xs : List X) → length (map f (enumerate_from n xs)) ≡ length xs
  length-changed n [] = refl
  length-changed n (x ∷ xs) = ap suc (length-changed (n + 1) xs)

pub length-with_links : (links : List Link) (packages : List PackageData) → length (with_links links packages) ≡ length packages
unfolding with_links
length-with_links links packages = length-changed (package_with_links links) 0 packages

module _ (count targets : ℕ) where
  pub with_links-holds : (links : List Link) (packages : List PackageData) → All (IsLinkWithin count) links → All (HoldsIds count targets) packages
      → All (HoldsIds count targets) (with_links links packages)
  unfolding with_links
  with_links-holds links packages within all =
      changed-all (package_with_links links) (HoldsIds count targets) (HoldsIds count targets)
      (λ k p h. record {
        targets = h.targets;
        dependencies = All-append (λ d. number_of d.pkg < count) p.dependencies (dependencies_at links k) h.dependencies (given-within count links k within);
        member_deps = h.member_deps;
      }) 0 packages all

-- ---- contents of which the packages have what the nodes give them

-- each id that they hold is present
pub linked-holds : (contents : Contents) (nodes : List Node) (linked : List PackageData) → length contents.packages < 2 ^ 32 → AreTaken contents
    → linked_packages contents.packages nodes ≡ Ok linked → HoldsItsIds (record { packages = linked; targets = contents.targets })
unfolding linked_packages
linked-holds contents nodes linked short taken is =
    let b = ok_from_bind (links_of contents.packages nodes) (λ links. Ok (with_links links contents.packages)) linked is in
    let given = with_links b.0 contents.packages in
    let count : length given ≡ length contents.packages = length-with_links b.0 contents.packages in
    let same : given ≡ linked = one_value given linked (Ok given) refl b.2 in
    subst (λ packages. HoldsItsIds (record { packages = packages; targets = contents.targets })) same (record {
      short = omega (arith, count, short);
      packages = subst (λ n. All (HoldsIds n (length contents.targets)) given) (sym count)
          (with_links-holds (length contents.packages) (length contents.targets) b.0 contents.packages (links-within contents.packages nodes b.0 b.1) taken.packages);
      targets = subst (λ n. All (λ t. number_of t.package < n) contents.targets) (sym count) taken.targets;
    })
