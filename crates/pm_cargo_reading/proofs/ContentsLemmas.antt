-- What packages and targets that were taken are: within the limits, in the order of the document's packages, with ids of their own.
use Rattle.std.proofs.Common.{◌≡◌, ℕ, ◌+◌, ◌<◌, ◌≤◌, List, [], ◌∷◌, ◌++◌, length, map, get_or, ◌^◌, Bool, cond, Ok, Err, refl, sym, ap, subst, ◌∙◌, arith, length-append, Ordering}
use Rattle.std.specs.Prelude.{bytes_eq, nat_lt}
use Rattle.std.specs.Cmp.Lexicographic.{nat_list_cmp_total}
use Rattle.std.specs.Cmp.{on_total}
use Rattle.std.specs.List.{All}
use Rattle.std.specs.List.Sorted.{IsSorted, IsSortedBy}
use Rattle.std.specs.Ordering.{is_lt}
use Rattle.std.proofs.lemmas.Bool.{ltb-true}
use Rattle.std.proofs.lemmas.List.{get_or-map, length-map, map-append}
use Rattle.std.proofs.lemmas.List.Elements.{All-push}
use Rattle.std.proofs.lemmas.List.Sorted.{list_any-IsPermutation}
use Rattle.base_text_outside.specs.declared.limits.Limit.TheVariants.{Packages, Targets}
use Rattle.base_text_outside.specs.declared.limits.Limits.{Limits}
use Rattle.base_text_paths.specs.Arena.{number_of}
use Rattle.base_values.specs.ByText.{text_cmp}
use Rattle.base_values.specs.Sorted.{sorted}
use Rattle.base_values.proofs.InOrder.{sorted-IsPermutation, sorted-IsSorted}
use Rattle.cargo_meta_values.specs.declared.names.PackageId.{PackageId}
use Rattle.cargo_meta.specs.declared.package.Package.{Package}
use Rattle.cargo_meta_values.specs.declared.target.Target.{Target}
use Rattle.pm_cargo_packages.specs.declared.package.PackageData.{PackageData}
use Rattle.pm_cargo_packages.specs.declared.target.TargetData.{TargetData}
use Rattle.pm_cargo_reading.specs.declared.contents.Contents.{Contents}
use Rattle.pm_cargo_reading.specs.Packages.{by_package_id, contents_of, by_id, ids_between, is_listed, absolute_manifest, target_root, take_package, take_target, target_with_root, unresolved_package, with_package}
use Rattle.base_values.specs.Outcome.{◌>>=◌, take_each}
use Rattle.pm_cargo_reading.specs.declared.workspace_error.WorkspaceError.TheVariants.{TooMany}
use Rattle.pm_cargo_reading.proofs.ReadingLemmas.{ok_from_limit, one_value, take_each-keeps, take_each-lists, take_each-same}
use Rattle.base_values.proofs.Outcomes.{ok_from_bind}

-- the order of ids, that of their bytes
abbrev pub by_repr : PackageId → PackageId → Ordering
by_repr x y = text_cmp x.repr y.repr

-- ---- lists in the order of a key

module _ {X K : Type 0} (key : X → K) (lt : K → K → Bool) where
  pub sorted_keys : (xs : List X) → IsSortedBy (λ a b. lt (key a) (key b)) xs → IsSortedBy lt (map key xs)
  sorted_keys [] up k d low l = absurd (omega arith)
  sorted_keys (x ∷ xs) up k d low l =
      let long : length (map key (x ∷ xs)) ≡ length (x ∷ xs) = length-map (x ∷ xs) key in
      let next : get_or (map key (x ∷ xs)) (k + 1) d ≡ key (get_or (x ∷ xs) (k + 1) x) = get_or-map key (x ∷ xs) (k + 1) x d (omega (arith, l, long)) in
      let here : get_or (map key (x ∷ xs)) k d ≡ key (get_or (x ∷ xs) k x) = get_or-map key (x ∷ xs) k x d (omega (arith, l, long)) in
      (λ i. lt (next i) (here i)) ∙ up k x low (omega (arith, l, long))

  pub sorted_by_keys : (xs : List X) → IsSortedBy lt (map key xs) → IsSortedBy (λ a b. lt (key a) (key b)) xs
  sorted_by_keys xs up k d low l =
      let long : length (map key xs) ≡ length xs = length-map xs key in
      let next : get_or (map key xs) (k + 1) (key d) ≡ key (get_or xs (k + 1) d) = get_or-map key xs (k + 1) d (key d) (omega (arith, l)) in
      let here : get_or (map key xs) k (key d) ≡ key (get_or xs k d) = get_or-map key xs k d (key d) (omega (arith, l)) in
      sym (λ i. lt (next i) (here i)) ∙ up k (key d) low (omega (arith, l, long))

-- ---- what one target and one package add

module _ (limit place : ℕ) (manifest : List ℕ) where
  -- a target that is taken is one more, of the package
  pub target-from : (before after : List TargetData) (t : Target) → take_target limit place manifest before t ≡ Ok after
      → (root : List ℕ) × (after ≡ before ++ target_with_root place t root ∷ []) × (length before < limit)
  unfolding take_target
  target-from before after t is =
      let a = ok_from_limit (nat_lt (length before) limit) (target_root manifest t >>= λ root. Ok (before ++ target_with_root place t root ∷ [])) (TooMany Targets) after is in
      let b = ok_from_bind (target_root manifest t) (λ root. Ok (before ++ target_with_root place t root ∷ [])) after a.1 in
      (b.0, one_value after (before ++ target_with_root place t b.0 ∷ []) (Ok after) refl (sym b.2), ltb-true (length before) limit a.0)

  -- targets that are taken are none fewer, and each new one is of the package
  pub targets-of : (count : ℕ) → place < count → (before after : List TargetData) (ts : List Target) → All (λ t. number_of t.package < count) before
      → take_each (take_target limit place manifest) before ts ≡ Ok after → All (λ t. number_of t.package < count) after
  targets-of count below before after ts all is =
      take_each-keeps (take_target limit place manifest) (λ targets. All (λ t. number_of t.package < count) targets) keeps before after ts all is
    where
      keeps : (s n : List TargetData) (t : Target) → All (λ t. number_of t.package < count) s → take_target limit place manifest s t ≡ Ok n
          → All (λ t. number_of t.package < count) n
      keeps s n t h is =
          let from = target-from s n t is in
          subst (All (λ t. number_of t.package < count)) (sym from.1) (All-push (λ t. number_of t.package < count) s (target_with_root place t from.0) h below)

  -- targets that are taken stay countable
  pub targets-short : limit < 2 ^ 32 → (before after : List TargetData) (ts : List Target) → length before < 2 ^ 32
      → take_each (take_target limit place manifest) before ts ≡ Ok after → length after < 2 ^ 32
  targets-short small before after ts short is =
      take_each-keeps (take_target limit place manifest) (λ targets. length targets < 2 ^ 32) keeps before after ts short is
    where
      keeps : (s n : List TargetData) (t : Target) → length s < 2 ^ 32 → take_target limit place manifest s t ≡ Ok n → length n < 2 ^ 32
      keeps s n t h is =
          let from = target-from s n t is in
          let one : length n ≡ length (s ++ target_with_root place t from.0 ∷ []) = ap length from.1 in
          omega (arith, one, from.2, small, length-append {A = TargetData})

  pub targets-more : (before after : List TargetData) (ts : List Target) → take_each (take_target limit place manifest) before ts ≡ Ok after
      → length before ≤ length after
  targets-more before after ts is =
      take_each-keeps (take_target limit place manifest) (λ targets. length before ≤ length targets) keeps before after ts (omega arith) is
    where
      keeps : (s n : List TargetData) (t : Target) → length before ≤ length s → take_target limit place manifest s t ≡ Ok n → length before ≤ length n
      keeps s n t h is =
          let from = target-from s n t is in
          let one : length n ≡ length (s ++ target_with_root place t from.0 ∷ []) = ap length from.1 in
          omega (arith, one, h, length-append {A = TargetData})

module _ (members : List PackageId) (limits : Limits) where
  -- a package that is taken has room, a manifest and targets
  pub package-from : (before after : Contents) (p : Package) → take_package members limits before p ≡ Ok after
      → (manifest : List ℕ) × (targets : List TargetData) × (length before.packages < limits.packages)
      × (take_each (take_target limits.targets (length before.packages) manifest) before.targets p.targets ≡ Ok targets)
      × (after ≡ with_package members before manifest p targets)
  unfolding take_package
  package-from before after p is =
      let a = ok_from_limit (nat_lt (length before.packages) limits.packages) (absolute_manifest p.manifest_path >>= λ manifest.
      take_each (take_target limits.targets (length before.packages) manifest) before.targets p.targets >>= λ targets.
      Ok (with_package members before manifest p targets)) (TooMany Packages) after is in
      let b = ok_from_bind (absolute_manifest p.manifest_path) (λ manifest.
      take_each (take_target limits.targets (length before.packages) manifest) before.targets p.targets >>= λ targets.
      Ok (with_package members before manifest p targets)) after a.1 in
      let c = ok_from_bind (take_each (take_target limits.targets (length before.packages) b.0) before.targets p.targets) (λ targets. Ok (with_package members before b.0 p targets)) after b.2 in
      (b.0, c.0, ltb-true (length before.packages) limits.packages a.0, c.1, one_value after (with_package members before b.0 p c.0) (Ok after) refl (sym c.2))

  -- there are no more packages than the limit
  pub packages-within : (before after : Contents) (ps : List Package) → length before.packages ≤ limits.packages → take_each (take_package members limits) before ps ≡ Ok after
      → length after.packages ≤ limits.packages
  packages-within before after ps room is =
      take_each-keeps (take_package members limits) (λ contents. length contents.packages ≤ limits.packages) keeps before after ps room is
    where
      keeps : (s n : Contents) (p : Package) → length s.packages ≤ limits.packages → take_package members limits s p ≡ Ok n → length n.packages ≤ limits.packages
      keeps s n p h is =
          let from = package-from s n p is in
          let one : length n.packages ≡ length (with_package members s from.0 p from.1).packages = ap (λ c. length c.packages) from.4 in
          omega (arith, one, from.2, length-append {A = PackageData})

  -- they have the ids of the document's packages, in their order
  pub packages-ids : (before after : Contents) (ps : List Package) → take_each (take_package members limits) before ps ≡ Ok after
      → map (λ p. p.id.repr) after.packages ≡ map (λ p. p.id.repr) before.packages ++ map (λ p. p.id.repr) ps
  packages-ids before after ps is =
      take_each-lists (take_package members limits) (λ contents. map (λ p. p.id.repr) contents.packages) (λ p. p.id.repr) adds before after ps is
    where
      adds : (s n : Contents) (p : Package) → take_package members limits s p ≡ Ok n
          → map (λ q. q.id.repr) n.packages ≡ map (λ q. q.id.repr) s.packages ++ p.id.repr ∷ []
      adds s n p is =
          let from = package-from s n p is in
          ap (λ c. map (λ q. q.id.repr) c.packages) from.4
          ∙ map-append (λ (q : PackageData). q.id.repr) s.packages
          (unresolved_package (is_listed members p.id) from.0 (ids_between (length s.targets) (length from.1)) p ∷ [])

  -- so packages that are taken in the order of their ids stand in it
  pub contents-sorted : (after : Contents) (ps : List Package) → contents_of members limits ps ≡ Ok after → IsSorted by_package_id after.packages
  unfolding contents_of
  contents-sorted after ps is =
      let ids : map (λ p. p.id.repr) after.packages ≡ map (λ p. p.id.repr) (sorted by_id ps) = packages-ids (record { packages = []; targets = [] }) after (sorted by_id ps) is in
      let up : IsSorted by_id (sorted by_id ps) = sorted-IsSorted (on_total (λ (p : Package). p.id.repr) nat_list_cmp_total) ps in
      sorted_by_keys (λ p. p.id.repr) (λ x y. is_lt (text_cmp x y)) after.packages
      (subst (IsSortedBy (λ x y. is_lt (text_cmp x y))) (sym ids) (sorted_keys (λ p. p.id.repr) (λ x y. is_lt (text_cmp x y)) (sorted by_id ps) up))

  -- and are no more than the limit
  pub contents-within : (after : Contents) (ps : List Package) → contents_of members limits ps ≡ Ok after → length after.packages ≤ limits.packages
  unfolding contents_of
  contents-within after ps is = packages-within (record { packages = []; targets = [] }) after (sorted by_id ps) (omega arith) is

-- only which ids are listed counts
pub package-members : (members others : List PackageId) (limits : Limits) → ((id : PackageId) → is_listed members id ≡ is_listed others id)
    → (contents : Contents) (p : Package) → take_package members limits contents p ≡ take_package others limits contents p
unfolding take_package
package-members members others limits same contents p =
    ap (λ b. cond (nat_lt (length contents.packages) limits.packages) (absolute_manifest p.manifest_path >>= λ manifest.
    take_each (take_target limits.targets (length contents.packages) manifest) contents.targets p.targets >>= λ targets.
    Ok (record {
      packages = contents.packages ++ unresolved_package b manifest (ids_between (length contents.targets) (length targets)) p ∷ [];
      targets = targets;
    })) (Err (TooMany Packages))) (same p.id)

pub contents-members : (members others : List PackageId) (limits : Limits) → ((id : PackageId) → is_listed members id ≡ is_listed others id)
    → (ps : List Package) → contents_of members limits ps ≡ contents_of others limits ps
unfolding contents_of
contents-members members others limits same ps =
    take_each-same (take_package members limits) (take_package others limits) (package-members members others limits same) (record { packages = []; targets = [] }) (sorted by_id ps)

-- the ids of members, sorted, list the same
listed_sorted : (members : List PackageId) (id : PackageId) → is_listed (sorted by_repr members) id ≡ is_listed members id
listed_sorted members id =
    sym (list_any-IsPermutation (λ member. bytes_eq member.repr id.repr) members (sorted by_repr members) (sorted-IsPermutation by_repr members))

-- what is taken with the members' ids and the packages sorted are the contents
pub contents-read : (members given : List PackageId) (limits : Limits) (ps in_order : List Package) → given ≡ sorted by_repr members → in_order ≡ sorted by_id ps
    → take_each (take_package given limits) (record { packages = []; targets = [] }) in_order ≡ contents_of members limits ps
unfolding contents_of
contents-read members given limits ps in_order listed ordered =
    (λ i. take_each (take_package (listed i) limits) (record { packages = []; targets = [] }) (ordered i))
    ∙ contents-members (sorted by_repr members) members limits (listed_sorted members) ps
