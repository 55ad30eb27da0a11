-- What the reading of packages says of limits: which of them a refusal names, and how many packages are left.
use Rattle.std.proofs.Common.{◌≡◌, ℕ, ◌≤◌, Bool, true, false, cond, List, [], ◌∷◌, ◌++◌, Option, Some, None, Ok, Err, length, ap, subst, arith}
use Rattle.std.specs.Prelude.{bytes_eq, codes, nat_lt}
use Rattle.base_text_outside.specs.declared.limits.Limit.{Limit}
use Rattle.base_text_outside.specs.declared.limits.Limit.TheVariants.{Packages, Targets}
use Rattle.base_text_outside.specs.declared.limits.Limits.{Limits}
use Rattle.base_text_paths.specs.Paths.{components, is_absolute, path_text}
use Rattle.base_values.specs.Sorted.{sorted}
use Rattle.cargo_meta.specs.declared.package.Package.{Package}
use Rattle.cargo_meta_values.specs.declared.names.PackageId.{PackageId}
use Rattle.cargo_meta_values.specs.declared.resolve.Node.{Node}
use Rattle.cargo_meta_values.specs.declared.resolve.NodeDep.{NodeDep}
use Rattle.cargo_meta_values.specs.declared.target.Target.{Target}
use Rattle.pm_cargo_packages.specs.declared.package.DepKind.{DepKind}
use Rattle.pm_cargo_packages.specs.declared.package.PackageData.{PackageData}
use Rattle.pm_cargo_packages.specs.declared.package.PackageDependency.{PackageDependency}
use Rattle.pm_cargo_packages.specs.declared.target.TargetData.{TargetData}
use Rattle.pm_cargo_reading.specs.Links.{linked_contents, linked_packages, with_links}
use Rattle.pm_cargo_reading.specs.Nodes.{by_package, dependencies_of_kinds, kinds_of, known_place, link_of, links_of, place_of_package, place_or_refusal, take_dependency, take_node, with_kinds}
use Rattle.pm_cargo_reading.specs.Packages.{absolute_path, contents_of, by_id, is_script, absolute_manifest, optional_path, target_root, take_package, take_target, target_with_root, with_package}
use Rattle.base_values.specs.Outcome.{◌>>=◌, take_each}
use Rattle.pm_cargo_reading.specs.Reading.{Reading, IsMetadataLimit}
use Rattle.pm_cargo_reading.specs.declared.contents.Contents.{Contents}
use Rattle.pm_cargo_reading.specs.declared.nodes.Link.{Link}
use Rattle.pm_cargo_reading.specs.declared.workspace_error.WorkspaceError.TheVariants.{NotAbsolute, NoParent, UnknownPackage, TooMany}
use Rattle.pm_cargo_reading.proofs.ContentsLemmas.{contents-within}
use Rattle.pm_cargo_reading.proofs.HoldsLemmas.{length-with_links}
use Rattle.base_values.proofs.Outcomes.{Keeps, keeps_bind, keeps_ok}

-- ---- which limit a refusal names

-- a reading that names a limit names one of metadata
abbrev pub Names : {T : Type 0} → Reading T → Type 0
Names r = (limit : Limit) → r ≡ Err (TooMany limit) → IsMetadataLimit limit

-- what is given names none
pub names_ok : {T : Type 0} (x : T) → Names (Ok x)
names_ok x limit is = absurd (cc)

-- a refusal of another kind names none
names_text : {T : Type 0} (text : List ℕ) → Names {T = T} (Err (NotAbsolute text))
names_text text limit is = absurd (cc)

names_parent : {T : Type 0} (text : List ℕ) → Names {T = T} (Err (NoParent text))
names_parent text limit is = absurd (cc)

names_unknown : {T : Type 0} (id : List ℕ) → Names {T = T} (Err (UnknownPackage id))
names_unknown id limit is = absurd (cc)

-- a part, and what is read with its value
pub names_bind : {A B : Type 0} (part : Reading A) (rest : A → Reading B) → Names part → ((x : A) → Names (rest x)) → Names (part >>= rest)
names_bind (Ok x) rest first more limit is = more x limit is
names_bind (Err e) rest first more limit is = first limit (let same : e ≡ TooMany limit = cc in ap Err same)

-- items in turn
names_each : {S X : Type 0} (step : S → X → Reading S) → ((s : S) (x : X) → Names (step s x)) → (s : S) (xs : List X) → Names (take_each step s xs)
unfolding take_each
names_each step each s [] = names_ok s
names_each step each s (x ∷ xs) =
    names_bind (step s x) (λ next. take_each step next xs) (each s x) (λ next. names_each step each next xs)

-- the same by whether a test holds
names_if : {T : Type 0} (b : Bool) (r q : Reading T) → Names r → Names q → Names (cond b r q)
names_if true r q first second = first
names_if false r q first second = second

names_packages : {T : Type 0} → Names {T = T} (Err (TooMany Packages))
names_packages limit is = subst IsMetadataLimit (let same : Packages ≡ limit = cc in same) tt

names_targets : {T : Type 0} → Names {T = T} (Err (TooMany Targets))
names_targets limit is = subst IsMetadataLimit (let same : Targets ≡ limit = cc in same) tt

pub names_path : (text : List ℕ) → Names (absolute_path text)
unfolding absolute_path
names_path text = names_if (is_absolute text) (Ok (path_text (components text))) (Err (NotAbsolute text)) (names_ok _) (names_text text)

pub names_optional : (text : Option (List ℕ)) → Names (optional_path text)
names_optional None = names_ok None
names_optional (Some text) = names_bind (absolute_path text) (λ path. Ok (Some path)) (names_path text) (λ path. names_ok (Some path))

pub names_manifest : (text : List ℕ) → Names (absolute_manifest text)
unfolding absolute_manifest
names_manifest text =
    names_bind (absolute_path text) (λ path. cond (bytes_eq path (codes "/")) (Err (NoParent path)) (Ok path)) (names_path text)
    (λ path. names_if (bytes_eq path (codes "/")) (Err (NoParent path)) (Ok path) (names_parent path) (names_ok path))

names_root : (manifest : List ℕ) (t : Target) → Names (target_root manifest t)
unfolding target_root
names_root manifest t = names_if (is_script manifest t) (Ok manifest) (absolute_path t.src_path) (names_ok manifest) (names_path t.src_path)

names_target : (limit place : ℕ) (manifest : List ℕ) (targets : List TargetData) (t : Target) → Names (take_target limit place manifest targets t)
unfolding take_target
names_target limit place manifest targets t =
    let added : Reading (List TargetData) = target_root manifest t >>= λ root. Ok (targets ++ target_with_root place t root ∷ []) in
    names_if (nat_lt (length targets) limit) added (Err (TooMany Targets))
    (names_bind (target_root manifest t) (λ root. Ok (targets ++ target_with_root place t root ∷ [])) (names_root manifest t) (λ root. names_ok _))
    names_targets

module _ (members : List PackageId) (limits : Limits) where
  names_package : (contents : Contents) (p : Package) → Names (take_package members limits contents p)
  unfolding take_package
  names_package contents p =
      let place = length contents.packages in
      names_if (nat_lt place limits.packages) _ (Err (TooMany Packages))
      (names_bind (absolute_manifest p.manifest_path) _ (names_manifest p.manifest_path) (λ manifest.
      names_bind (take_each (take_target limits.targets place manifest) contents.targets p.targets)
      (λ targets. Ok (with_package members contents manifest p targets))
      (names_each (take_target limits.targets place manifest) (names_target limits.targets place manifest) contents.targets p.targets)
      (λ targets. names_ok _)))
      names_packages

  names_contents : (packages : List Package) → Names (contents_of members limits packages)
  unfolding contents_of
  names_contents packages = names_each (take_package members limits) names_package (record { packages = []; targets = [] }) (sorted by_id packages)

names_place : (packages : List PackageData) (id : List ℕ) → Names (known_place packages id)
names_place packages id = by (place_of_package packages id)
  where
    by : (o : Option ℕ) → Names (place_or_refusal id o)
    by None = names_unknown id
    by (Some place) = names_ok place

names_kinds : (packages : List PackageData) (d : NodeDep) (kinds : List DepKind) → Names (dependencies_of_kinds packages d kinds)
names_kinds packages d [] = names_ok []
names_kinds packages d (kind ∷ kinds) =
    names_bind (known_place packages d.pkg.repr) (λ place. Ok (with_kinds place d.name (kind ∷ kinds))) (names_place packages d.pkg.repr) (λ place. names_ok _)

names_dependency : (packages : List PackageData) (before : List PackageDependency) (d : NodeDep) → Names (take_dependency packages before d)
unfolding take_dependency
names_dependency packages before d =
    names_bind (dependencies_of_kinds packages d (kinds_of d.dep_kinds)) (λ more. Ok (before ++ more)) (names_kinds packages d (kinds_of d.dep_kinds)) (λ more. names_ok _)

names_link : (packages : List PackageData) (node : Node) → Names (link_of packages node)
unfolding link_of
names_link packages node =
    names_bind (known_place packages node.id.repr) _ (names_place packages node.id.repr) (λ place.
    names_bind (take_each (take_dependency packages) [] (sorted by_package node.deps)) _
    (names_each (take_dependency packages) (names_dependency packages) [] (sorted by_package node.deps)) (λ dependencies. names_ok _))

names_node : (packages : List PackageData) (links : List Link) (node : Node) → Names (take_node packages links node)
unfolding take_node
names_node packages links node = names_bind (link_of packages node) (λ link. Ok (links ++ link ∷ [])) (names_link packages node) (λ link. names_ok _)

names_linked : (packages : List PackageData) (nodes : List Node) → Names (linked_packages packages nodes)
unfolding linked_packages
names_linked packages nodes =
    names_bind (links_of packages nodes) (λ links. Ok (with_links links packages))
    (names_each (take_node packages) (names_node packages) [] nodes) (λ links. names_ok _)

pub names_all : (members : List PackageId) (limits : Limits) (packages : List Package) (nodes : List Node) → Names (linked_contents members limits packages nodes)
unfolding linked_contents
names_all members limits packages nodes =
    names_bind (contents_of members limits packages) _ (names_contents members limits packages) (λ contents.
    names_bind (linked_packages contents.packages nodes) _ (names_linked contents.packages nodes) (λ linked. names_ok _))

-- ---- how many packages there are

linked_length : (packages : List PackageData) (nodes : List Node) → Keeps (λ linked. length linked ≡ length packages) (linked_packages packages nodes)
unfolding linked_packages
linked_length packages nodes =
    keeps_bind (λ linked. length linked ≡ length packages) (links_of packages nodes) (λ links. Ok (with_links links packages)) (λ links is.
    keeps_ok (λ linked. length linked ≡ length packages) (with_links links packages) (length-with_links links packages))

pub linked_few : (members : List PackageId) (limits : Limits) (packages : List Package) (nodes : List Node)
    → Keeps (λ contents. length contents.packages ≤ limits.packages) (linked_contents members limits packages nodes)
unfolding linked_contents
linked_few members limits packages nodes =
    keeps_bind (λ (c : Contents). length c.packages ≤ limits.packages) (contents_of members limits packages) _ (λ contents is.
    keeps_bind (λ (c : Contents). length c.packages ≤ limits.packages) (linked_packages contents.packages nodes) _ (λ linked given.
    keeps_ok (λ (c : Contents). length c.packages ≤ limits.packages) (record { packages = linked; targets = contents.targets })
    (let few = contents-within members limits contents packages is in let same = linked_length contents.packages nodes linked given in omega (arith, few, same))))
