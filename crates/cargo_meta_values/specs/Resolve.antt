-- the tables of the resolved graph, in the field order of `cargo metadata`
use Rattle.std.specs.Prelude.{◌≡◌, [], Bool, false, codes, find, nat_eq, refl, Option, Ok}
use Rattle.std.specs.Cmp.Lexicographic.{pointwise}
use Rattle.serde_json.specs.Data.{Data, object, no_members, string}
use Rattle.json_fields.specs.Fields.{members_at, required_member, optional_member, default_member, text_at, list_at}
use Rattle.base_values.specs.Outcome.{◌>>=◌}
use Rattle.json_fields.specs.Outcome.{Reading}
use Rattle.json_fields.specs.Written.{is_null, list_data, option_data, set_member}
use Rattle.cargo_meta_values.specs.Kinds.{dependency_kind_at, dependency_kind_data}
use Rattle.cargo_meta_values.specs.Names.{package_id_at, package_id_data}
use Rattle.cargo_meta_values.specs.declared.names.PackageId.{PackageId}
use Rattle.cargo_meta_values.specs.declared.resolve.DepKindInfo.{DepKindInfo}
use Rattle.cargo_meta_values.specs.declared.resolve.NodeDep.{NodeDep}
use Rattle.cargo_meta_values.specs.declared.resolve.Node.{Node}
use Rattle.cargo_meta_values.specs.declared.resolve.Resolve.{Resolve}

-- when and where a dependency is needed
unfoldable pub dep_kind_at : Data → Reading DepKindInfo
dep_kind_at d = do
  ms ← members_at d
  kind ← required_member (codes "kind") dependency_kind_at ms
  target ← optional_member (codes "target") text_at ms
  Ok (record { kind = kind; target = target })

-- the kind of an edge, written
unfoldable pub dep_kind_data : DepKindInfo → Data
dep_kind_data k =
    object (set_member (codes "target") (option_data string k.target)
    (set_member (codes "kind") (dependency_kind_data k.kind) no_members))

-- what a node depends on
unfoldable pub node_dep_at : Data → Reading NodeDep
node_dep_at d = do
  ms ← members_at d
  name ← required_member (codes "name") text_at ms
  pkg ← required_member (codes "pkg") package_id_at ms
  dep_kinds ← default_member (codes "dep_kinds") [] (list_at dep_kind_at) ms
  Ok (record { name = name; pkg = pkg; dep_kinds = dep_kinds })

-- an edge of a node, written
unfoldable pub node_dep_data : NodeDep → Data
node_dep_data d =
    object (set_member (codes "dep_kinds") (list_data dep_kind_data d.dep_kinds)
    (set_member (codes "pkg") (package_id_data d.pkg)
    (set_member (codes "name") (string d.name) no_members)))

-- a package of the resolved graph
unfoldable pub node_at : Data → Reading Node
node_at d = do
  ms ← members_at d
  id ← required_member (codes "id") package_id_at ms
  deps ← default_member (codes "deps") [] (list_at node_dep_at) ms
  dependencies ← required_member (codes "dependencies") (list_at package_id_at) ms
  features ← default_member (codes "features") [] (list_at text_at) ms
  Ok (record { id = id; deps = deps; dependencies = dependencies; features = features })

-- a node, written
unfoldable pub node_data : Node → Data
node_data n =
    object (set_member (codes "features") (list_data string n.features)
    (set_member (codes "dependencies") (list_data package_id_data n.dependencies)
    (set_member (codes "deps") (list_data node_dep_data n.deps)
    (set_member (codes "id") (package_id_data n.id) no_members))))

-- the resolved graph
unfoldable pub resolve_at : Data → Reading Resolve
resolve_at d = do
  ms ← members_at d
  nodes ← required_member (codes "nodes") (list_at node_at) ms
  root ← optional_member (codes "root") package_id_at ms
  Ok (record { nodes = nodes; root = root })

-- a graph of packages, written
unfoldable pub resolve_data : Resolve → Data
resolve_data r =
    object (set_member (codes "root") (option_data package_id_data r.root)
    (set_member (codes "nodes") (list_data node_data r.nodes) no_members))

-- the graph is not written as null
pub resolve_data-present : (r : Resolve) → is_null (resolve_data r) ≡ false
unfolding resolve_data
resolve_data-present r = refl

-- ids are equal as their texts are
abbrev pub is_id : PackageId → PackageId → Bool
is_id a b = pointwise nat_eq a.repr b.repr

-- the first node of the id
abbrev pub node_of : PackageId → Resolve → Option Node
node_of id r = find (λ n. is_id n.id id) r.nodes
