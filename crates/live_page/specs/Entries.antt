-- The entries of crates, which name crates and files by paths alone: a crate by the path of its root file,
-- with its dependencies. From the rule that a page shows what the crates of a graph are, and nothing of how a
-- database numbers them.
use Rattle.std.specs.Prelude.{ℕ, List, Option, map, slice_get}
use Rattle.std.specs.Cmp.Lexicographic.{slice_cmp}
use Rattle.std.specs.List.{dedup, filter_map}
use Rattle.std.specs.Option.{option_and_then, option_map}
use Rattle.std.specs.Ordering.{eq_by_cmp, on, then_cmp}
use Rattle.std.specs.declared.cmp.Ordering.{Ordering}
use Rattle.base_values.specs.ByText.{text_cmp}
use Rattle.base_values.specs.Sorted.{sorted}
use Rattle.base_text_paths.specs.Arena.{number_of}
use Rattle.vfs_sets.specs.FileSet.{path_of}
use Rattle.input_db_files.specs.Files.{FileTables, root_of_file}
use Rattle.input_db_files.specs.SourceRoot.{set_of_root}
use Rattle.crate_graph_values.specs.declared.builder.CrateBuilder.{CrateBuilder}
use Rattle.crate_graph_values.specs.declared.crate_data.CrateData.{CrateData}
use Rattle.crate_graph_values.specs.declared.crate_data.Dependency.{Dependency}
use Rattle.input_db.specs.Database.{Database}
use Rattle.input_db.specs.Identity.{Table, input_in}
use Rattle.live_page.specs.declared.crate_entry.CrateEntry.{CrateEntry}
use Rattle.live_page.specs.declared.crate_entry.DependencyEntry.{DependencyEntry}

-- the path of a file, where it has one
abbrev pub Paths : Type 0
Paths = ℕ → Option (List ℕ)

-- what the entry of a crate is made of: the crate's root file, and its dependencies, each by its name and the
-- number of the crate that it is on
pub record Node : Type 0 where
  pub root_file : ℕ
  pub dependencies : List (List ℕ × ℕ)

-- ---- one entry

-- dependencies compare by their names, and then by their roots
abbrev pub dependency_cmp : DependencyEntry → DependencyEntry → Ordering
dependency_cmp = then_cmp (on (λ dep. dep.name) text_cmp) (on (λ dep. dep.root) text_cmp)

-- entries compare by their roots, and then by their dependencies
abbrev pub entry_cmp : CrateEntry → CrateEntry → Ordering
entry_cmp = then_cmp (on (λ entry. entry.root) text_cmp) (on (λ entry. entry.deps) (slice_cmp dependency_cmp))

-- a dependency as an entry shows it, where the root file of the crate that it is on has a path
abbrev pub dependency_entry : (ℕ → Option (List ℕ)) → List ℕ × ℕ → Option DependencyEntry
dependency_entry root dep = option_map (λ path. record { name = dep.0; root = path }) (root dep.1)

-- the dependencies of a crate as its entry shows them: in order, with repeats
abbrev pub dependency_entries : (ℕ → Option (List ℕ)) → List (List ℕ × ℕ) → List DependencyEntry
dependency_entries root deps = sorted dependency_cmp (filter_map (dependency_entry root) deps)

-- the entry of a crate, where its root file has a path, by the paths of files and of the root files of other
-- crates
abbrev pub entry_of : Paths → (ℕ → Option (List ℕ)) → Node → Option CrateEntry
entry_of paths root node =
    option_map (λ path. record { root = path; deps = dependency_entries root node.dependencies })
    (paths node.root_file)

-- entries in order, and equal ones once
abbrev pub distinct_entries : List CrateEntry → List CrateEntry
distinct_entries entries = dedup (eq_by_cmp entry_cmp) (sorted entry_cmp entries)

-- the path of the root file of a crate that is there
abbrev pub root_path : Paths → Option Node → Option (List ℕ)
root_path paths node = option_and_then (λ n. paths n.root_file) node

-- ---- the crates of a list, which name each other by their places in it

-- the entries of crates
abbrev pub entries_of : Paths → List Node → List CrateEntry
entries_of paths nodes =
    distinct_entries (filter_map (entry_of paths (λ place. root_path paths (slice_get nodes place))) nodes)

-- a dependency by its name and its number
abbrev pub named_number : {Number : Type 0} → (Number → ℕ) → Dependency Number → List ℕ × ℕ
named_number number dep = (dep.name, number dep.crate_id)

-- crate data as entries see it
abbrev pub node_by : {Number : Type 0} → (Number → ℕ) → CrateData Number → Node
node_by number krate = record {
  root_file = krate.root_file_id;
  dependencies = map (named_number number) krate.dependencies;
}

-- a crate of a graph as entries see it
abbrev pub entry_node : CrateBuilder → Node
entry_node krate = node_by number_of krate.basic

-- ---- the crates of a database, which name each other by their places in its table

-- a crate of a database as entries see it
abbrev pub node_in : Table → ℕ → Option Node
node_in table krate = option_map (λ input. node_by (λ n. n) input.crate_data) (input_in table krate)

-- the path of the root file of a crate of a database
abbrev pub root_file_path : Paths → Table → ℕ → Option (List ℕ)
root_file_path paths table krate = root_path paths (node_in table krate)

-- the entry of a crate of a database
abbrev pub entry_in : Paths → Table → ℕ → Option CrateEntry
entry_in paths table krate =
    option_and_then (entry_of paths (root_file_path paths table)) (node_in table krate)

-- the entries of the crates that a database lists
abbrev pub entries_listed : Paths → Database → List CrateEntry
entries_listed paths db = distinct_entries (filter_map (entry_in paths db.crates) db.listed)

-- the path of a file in its source root
abbrev pub path_in : FileTables → Paths
path_in files file =
    option_and_then (λ root. option_map (λ path. path.text) (path_of (set_of_root root) file))
    (root_of_file files file)

-- the entries that a database shows: those of the crates that it lists, by the paths in its source roots
abbrev pub entries_shown : Database → List CrateEntry
entries_shown db = entries_listed (path_in db.files) db
