-- The metadata that `generate` records: the document of packages in a row, each of which needs the one before
-- it and, for tests, the one behind it. It is one compact line with ascending keys.
use Rattle.std.specs.Prelude.{ℕ, ◌+◌, ◌-◌, Bool, true, false, if◌then◌else◌, List, [], ◌∷◌, ◌++◌, codes, decimal, map, nat_lt}
use Rattle.std.specs.List.{range_with_len}
use Rattle.serde_json.specs.Data.{Data, null, number, unsigned, string, array, object, no_items, item, no_members}
use Rattle.serde_json.specs.View.{items_of}
use Rattle.serde_json.specs.Written.{compact_text}
use Rattle.json_fields.specs.Written.{list_data, set_member}
use Rattle.live_page.specs.declared.generated.GeneratedPackage.{GeneratedPackage}
use Rattle.live_page.specs.declared.generated.PackageEdge.{PackageEdge}

-- ---- packages

-- the name of a package by its number, which is its id too
unfoldable pub package_name : ℕ → List ℕ
package_name n = codes "p" ++ decimal n

-- the path of the root file of a package's library
unfoldable pub library_path : ℕ → List ℕ
library_path n = codes "/g/p" ++ (decimal n ++ codes "/src/lib.rs")

-- the path of a package's manifest
unfoldable pub package_manifest : ℕ → List ℕ
package_manifest n = codes "/g/p" ++ (decimal n ++ codes "/Cargo.toml")

-- a package by its number
unfoldable pub package_of : ℕ → GeneratedPackage
package_of n = record {
  name = package_name n;
  version = codes "1.0.0";
  manifest_path = package_manifest n;
  src_path = library_path n;
}

-- the kinds of a library
abbrev pub library_kinds_data : Data
library_kinds_data = array (item (string (codes "lib")) no_items)

-- the library of a package, which is its one target
unfoldable pub library_data : GeneratedPackage → Data
library_data p =
    object (set_member (codes "src_path") (string p.src_path)
    (set_member (codes "name") (string p.name)
    (set_member (codes "kind") library_kinds_data no_members)))

-- a package: it states no dependencies, which the resolved graph has
unfoldable pub package_data : GeneratedPackage → Data
package_data p =
    object (set_member (codes "manifest_path") (string p.manifest_path)
    (set_member (codes "features") (object no_members)
    (set_member (codes "targets") (array (item (library_data p) no_items))
    (set_member (codes "dependencies") (array no_items)
    (set_member (codes "id") (string p.name)
    (set_member (codes "version") (string p.version)
    (set_member (codes "name") (string p.name) no_members)))))))

-- ---- the resolved graph

-- an edge to a package, for tests alone or not
abbrev pub edge_to : ℕ → Bool → PackageEdge
edge_to n is_dev = record { name = package_name n; is_dev = is_dev }

-- the edges of a package, of so many: to the one before it, and for tests to the one behind it
unfoldable pub edges_of : ℕ → ℕ → List PackageEdge
edges_of count n =
    (if nat_lt 0 n then edge_to (n - 1) false ∷ [] else [])
    ++ (if nat_lt (n + 1) count then edge_to (n + 1) true ∷ [] else [])

-- the kind of an edge
abbrev pub edge_kind_data : Bool → Data
edge_kind_data is_dev = if is_dev then string (codes "dev") else null

-- the kinds of an edge, of which there is one
unfoldable pub edge_kinds_data : Bool → Data
edge_kinds_data is_dev =
    array (item (object (set_member (codes "kind") (edge_kind_data is_dev) no_members)) no_items)

-- an edge
unfoldable pub edge_data : PackageEdge → Data
edge_data e =
    object (set_member (codes "dep_kinds") (edge_kinds_data e.is_dev)
    (set_member (codes "pkg") (string e.name)
    (set_member (codes "name") (string e.name) no_members)))

-- a node by its id and its edges
unfoldable pub node_with : List ℕ → List PackageEdge → Data
node_with id edges =
    object (set_member (codes "dependencies") (list_data string (map (λ e. e.name) edges))
    (set_member (codes "deps") (array (items_of (map edge_data edges)))
    (set_member (codes "id") (string id) no_members)))

-- the node of a package, of so many
abbrev pub node_data : ℕ → ℕ → Data
node_data count n = node_with (package_name n) (edges_of count n)

-- the resolved graph of so many packages, which has no root
unfoldable pub graph_data : ℕ → Data
graph_data count =
    object (set_member (codes "root") null
    (set_member (codes "nodes") (array (items_of (map (node_data count) (range_with_len 0 count))))
    no_members))

-- ---- the document

-- all packages
abbrev pub packages_data : ℕ → Data
packages_data count =
    array (items_of (map (λ n. package_data (package_of n)) (range_with_len 0 count)))

-- the names of all packages
abbrev pub package_names : ℕ → List (List ℕ)
package_names count = map package_name (range_with_len 0 count)

-- the document of so many packages, all of them members
unfoldable pub document_data : ℕ → Data
document_data count =
    object (set_member (codes "version") (number (unsigned 1))
    (set_member (codes "target_directory") (string (codes "/g/target"))
    (set_member (codes "workspace_root") (string (codes "/g"))
    (set_member (codes "resolve") (graph_data count)
    (set_member (codes "workspace_members") (list_data string (package_names count))
    (set_member (codes "packages") (packages_data count) no_members))))))

-- its text
unfoldable pub generated_document : ℕ → List ℕ
generated_document count = compact_text (document_data count)
