-- Two documents of `cargo metadata` that differ in nothing but the order of their packages, their nodes, the
-- entries of these, and their members.
use Rattle.std.specs.Prelude.{◌≡◌, ◌↔◌, ℕ, Bool, List, [], map, Ok}
use Rattle.std.specs.List.{Contains}
use Rattle.std.specs.declared.cmp.Ordering.{Ordering}
use Rattle.base_values.specs.ByText.{text_cmp}
use Rattle.base_values.specs.Sorted.{sorted}
use Rattle.base_text_outside.specs.declared.limits.Limits.{Limits}
use Rattle.cargo_meta.specs.declared.metadata.Metadata.{Metadata}
use Rattle.cargo_meta_values.specs.declared.names.PackageId.{PackageId}
use Rattle.cargo_meta_values.specs.declared.resolve.Node.{Node}
use Rattle.pm_cargo_reading.specs.Nodes.{by_package, nodes_of}
use Rattle.pm_cargo_reading.specs.Packages.{by_id}
use Rattle.pm_cargo.specs.ReadWorkspace.{read_workspace}
use Rattle.pm_cargo.specs.Workspace.{Workspace}

-- the order of nodes: that of the bytes of their ids
abbrev pub by_node : Node → Node → Ordering
by_node n m = text_cmp n.id.repr m.id.repr

-- a node as a workspace is read of it: its entries in the order of their packages, without the plain list of
-- their ids, which is not read
abbrev pub with_sorted_entries : Node → Node
with_sorted_entries node = record node { deps = sorted by_package node.deps; dependencies = [] }

-- the nodes of a document in the order of their ids, each with its entries in order
abbrev pub document_nodes_in_order : Metadata → List Node
document_nodes_in_order document = map with_sorted_entries (sorted by_node (nodes_of document.resolve))

-- the documents are one but for the order of packages, nodes, entries and members; what has one id keeps its
-- order
pub record IsShuffle (a b : Metadata) : Type 0 where
  pub packages : sorted by_id a.packages ≡ sorted by_id b.packages
  pub nodes : document_nodes_in_order a ≡ document_nodes_in_order b
  pub members : (id : PackageId) → Contains a.workspace_members id ↔ Contains b.workspace_members id
  pub root : a.workspace_root ≡ b.workspace_root
  pub target : a.target_directory ≡ b.target_directory
  pub build : a.build_directory ≡ b.build_directory

-- where both documents are read, with equal other arguments, the workspaces are equal
abbrev pub IsReadAlike : Metadata → Metadata → Type 0
IsReadAlike a b =
    (manifest : List ℕ) (env : List (List ℕ × List ℕ)) (is_sysroot : Bool) (limits : Limits) (w v : Workspace)
    → read_workspace a manifest env is_sysroot limits ≡ Ok w
    → read_workspace b manifest env is_sysroot limits ≡ Ok v → w ≡ v
