-- The nodes of a document of `cargo metadata`, which give packages their dependencies and active features.
-- They are taken in document order, each whole before the next.
use Rattle.std.specs.Prelude.{ℕ, suc, Bool, true, false, List, [], ◌∷◌, ◌++◌, map, filter, bytes_eq, if◌then◌else◌, Option, Some, None, Ok, Err}
use Rattle.std.specs.List.{list_any}
use Rattle.std.specs.Option.{option_map, option_or}
use Rattle.std.specs.declared.cmp.Ordering.{Ordering}
use Rattle.base_values.specs.ByText.{text_cmp}
use Rattle.base_values.specs.Sorted.{sorted}
use Rattle.cargo_meta_values.specs.declared.kinds.DependencyKind as document
use Rattle.cargo_meta_values.specs.declared.kinds.DependencyKind.TheVariants as of
use Rattle.cargo_meta_values.specs.declared.resolve.DepKindInfo.{DepKindInfo}
use Rattle.cargo_meta_values.specs.declared.resolve.Node.{Node}
use Rattle.cargo_meta_values.specs.declared.resolve.NodeDep.{NodeDep}
use Rattle.cargo_meta_values.specs.declared.resolve.Resolve.{Resolve}
use Rattle.pm_cargo_packages.specs.Ids.{package_id}
use Rattle.pm_cargo_packages.specs.declared.package.DepKind.{DepKind}
use Rattle.pm_cargo_packages.specs.declared.package.DepKind.TheVariants.{Normal, Dev, Build}
use Rattle.pm_cargo_packages.specs.declared.package.PackageData.{PackageData}
use Rattle.pm_cargo_packages.specs.declared.package.PackageDependency.{PackageDependency}
use Rattle.base_values.specs.Outcome.{◌>>=◌, take_each}
use Rattle.pm_cargo_reading.specs.Reading.{Reading}
use Rattle.pm_cargo_reading.specs.declared.nodes.Link.{Link}
use Rattle.pm_cargo_reading.specs.declared.workspace_error.WorkspaceError.TheVariants.{UnknownPackage}

-- the nodes of a document, which has none where nothing was resolved
abbrev pub nodes_of : Option Resolve → List Node
nodes_of None = []
nodes_of (Some resolve) = resolve.nodes

-- ---- packages by id

-- the place of the last item that passes a test
abbrev pub last_place : {X : Type 0} → (X → Bool) → List X → Option ℕ
last_place p [] = None
last_place p (x ∷ xs) = option_or (option_map suc (last_place p xs)) (if p x then Some 0 else None)

-- the place of the package of an id: where several packages have one id, the last of them counts
unfoldable pub place_of_package : List PackageData → List ℕ → Option ℕ
place_of_package packages id = last_place (λ p. bytes_eq p.id.repr id) packages

-- the place, or the refusal where the id is that of no package
abbrev pub place_or_refusal : List ℕ → Option ℕ → Reading ℕ
place_or_refusal id (Some place) = Ok place
place_or_refusal id None = Err (UnknownPackage id)

-- the place of the package of an id, which must be known
abbrev pub known_place : List PackageData → List ℕ → Reading ℕ
known_place packages id = place_or_refusal id (place_of_package packages id)

-- ---- kinds

-- whether a document's kind is this one
abbrev pub is_kind : DepKind → document.DependencyKind → Bool
is_kind Normal of.Normal = true
is_kind Dev of.Development = true
is_kind Build of.Build = true
is_kind kind other = false

-- whether a list of kinds has this one; an empty list counts as Normal
abbrev pub has_kind : List DepKindInfo → DepKind → Bool
has_kind [] Normal = true
has_kind infos kind = list_any (λ info. is_kind kind info.kind) infos

-- the kinds of a dependency, each once, in this order; unknown ones drop out
unfoldable pub kinds_of : List DepKindInfo → List DepKind
kinds_of infos = filter (has_kind infos) (Normal ∷ Dev ∷ Build ∷ [])

-- ---- nodes

-- the order of a node's dependencies: that of the bytes of their packages' ids
abbrev pub by_package : NodeDep → NodeDep → Ordering
by_package d e = text_cmp d.pkg.repr e.pkg.repr

-- a dependency on the package at a place, of each of some kinds
abbrev pub with_kinds : ℕ → List ℕ → List DepKind → List PackageDependency
with_kinds place name kinds = map (λ kind. record { pkg = package_id place; name = name; kind = kind }) kinds

-- the dependencies that an entry of a node gives: one for each kind. Its package must be known only where a
-- kind is left
abbrev pub dependencies_of_kinds : List PackageData → NodeDep → List DepKind
    → Reading (List PackageDependency)
dependencies_of_kinds packages d [] = Ok []
dependencies_of_kinds packages d (kind ∷ kinds) =
    known_place packages d.pkg.repr >>= λ place. Ok (with_kinds place d.name (kind ∷ kinds))

-- one more entry of a node
unfoldable pub take_dependency : List PackageData → List PackageDependency → NodeDep
    → Reading (List PackageDependency)
take_dependency packages before d =
    dependencies_of_kinds packages d (kinds_of d.dep_kinds) >>= λ more. Ok (before ++ more)

-- what a node gives: its package must be known, and then its dependencies, sorted by their packages' ids
unfoldable pub link_of : List PackageData → Node → Reading Link
link_of packages node =
    known_place packages node.id.repr >>= λ place.
    take_each (take_dependency packages) [] (sorted by_package node.deps) >>= λ dependencies.
    Ok (record { source = package_id place; dependencies = dependencies; features = node.features })

-- one more node
unfoldable pub take_node : List PackageData → List Link → Node → Reading (List Link)
take_node packages links node = link_of packages node >>= λ link. Ok (links ++ link ∷ [])

-- what all nodes give
abbrev pub links_of : List PackageData → List Node → Reading (List Link)
links_of packages nodes = take_each (take_node packages) [] nodes
