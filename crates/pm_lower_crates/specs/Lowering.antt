-- The lowering of a project: the crates of its rows and the edges between them, or why it has no graph. Rows,
-- edges and refusals are those of all parts, a toolchain's libraries before the project; which numbers a
-- graph has is told by `Shown`. The rule is that of rust-analyzer's `ProjectWorkspace::to_crate_graph`.
use Rattle.std.specs.Prelude.{◌≡◌, ◌↔◌, ℕ, ◌+◌, List, [], ◌∷◌, ◌++◌, map, length, Option, Some, None, Result, Ok, Err, nat_lt, slice_get, if◌then◌else◌}
use Rattle.std.specs.List.{Contains}
use Rattle.std.specs.Option.{option_or}
use Rattle.base_text_outside.specs.declared.limits.Limit.TheVariants.{Crates}
use Rattle.base_text_paths.specs.declared.arena.Idx.{Idx}
use Rattle.graph_base.specs.Reach.{Reaches}
use Rattle.crate_graph_values.specs.CrateData.{prelude_of, is_of_sysroot}
use Rattle.crate_graph_values.specs.declared.builder.CrateBuilder.{CrateBuilder}
use Rattle.crate_graph_values.specs.declared.crate_data.CrateTag.{CrateTag}
use Rattle.crate_graph_values.specs.declared.crate_data.Dependency.{Dependency}
use Rattle.crate_graph.specs.Graph.{Graph, edges, target_of}
use Rattle.pm_cargo.specs.Workspace.{Workspace}
use Rattle.pm_lower_crates.specs.Columns.{Columns, columns_of, columns_seen}
use Rattle.pm_lower_crates.specs.Facts.{Facts}
use Rattle.pm_lower_crates.specs.KeptEdges.{deps_of, kept_edges}
use Rattle.pm_lower_crates.specs.Loader.{FileNumbers}
use Rattle.pm_lower_crates.specs.Refusal.{Refuses}
use Rattle.pm_lower_crates.specs.Rows.{Owner, Row, owners, rows_of}
use Rattle.pm_lower_crates.specs.WantedEdges.{Dep, Edge, Public, RankedEdge, bad_names_of_owners, unranked, wanted_of_owners}
use Rattle.pm_lower_crates.specs.declared.lower_error.LowerError.{LowerError}
use Rattle.pm_lower_crates.specs.declared.lower_error.LowerError.TheVariants.{BadCrateName, TooMany}

-- ---- crates

-- a crate: the file that it begins in, its columns, and what it depends on
pub record Crate : Type 0 where
  pub root : ℕ
  pub columns : Columns
  pub deps : List Dep

-- crates, numbered from n on, with the dependencies that edges give each
abbrev pub with_deps : List Edge → ℕ → List Crate → List Crate
with_deps kept n [] = []
with_deps kept n (c ∷ cs) = record c { deps = deps_of kept n } ∷ with_deps kept (n + 1) cs

-- ---- parts

-- a part of a project: a toolchain's libraries, the project itself, or the crates of the compiler
pub record ProjectPart : Type 0 where
  -- the crates of its rows, in order, which depend on nothing yet
  pub rows : List Crate
  -- the edges that its rows want, in order of rank
  pub wanted : List RankedEdge
  -- the bad names of dependencies, by package and dependency
  pub bad_names : List (List ℕ)

-- a part without rows
abbrev pub no_project_part : ProjectPart
no_project_part = record { rows = []; wanted = []; bad_names = [] }

-- the edges that the rows of a part want, in their order
abbrev pub wanted_edges : ProjectPart → List Edge
wanted_edges part = unranked part.wanted

-- the crates of a part, whose rows are numbered from n on, with the edges that are kept of those wanted
unfoldable pub crates_from : ℕ → ProjectPart → List Crate
crates_from n part = with_deps (kept_edges (wanted_edges part)) n part.rows

-- the crate of a row, which depends on nothing yet
abbrev pub row_crate : Facts → Workspace → Row → Crate
row_crate facts w row = record { root = row.file; columns = columns_of facts w row; deps = [] }

-- a Cargo workspace as part q, by its packages with their rows
abbrev pub cargo_part : Facts → ℕ → Public → Workspace → List Owner → ProjectPart
cargo_part facts q public w owners = record {
  rows = map (row_crate facts w) (rows_of owners);
  wanted = wanted_of_owners q public owners;
  bad_names = bad_names_of_owners owners;
}

-- ---- refusals

-- there are more rows than the limit
abbrev pub too_many : ℕ → ℕ → Option LowerError
too_many limit count = if nat_lt limit count then Some (TooMany Crates) else None

-- a name is bad: the first
abbrev pub bad_name : List (List ℕ) → Option LowerError
bad_name [] = None
bad_name (name ∷ names) = Some (BadCrateName name)

-- why a part is refused, behind so many rows that are shown
unfoldable pub part_refusal : ℕ → ℕ → ProjectPart → Option LowerError
part_refusal limit shown part =
    option_or (too_many limit (shown + length part.rows)) (bad_name part.bad_names)

-- why a project is refused: the libraries' rows are too many, or a name of theirs is bad, or the rows that
-- are shown are too many, or a name of the project's is bad
abbrev pub refusal : ℕ → ProjectPart → ℕ → ProjectPart → Option LowerError
refusal limit libraries shown project =
    option_or (part_refusal limit 0 libraries) (part_refusal limit shown project)

-- what there is unless it is refused
abbrev pub unless_refused : {T : Type 0} → Option LowerError → T → Result T LowerError
unless_refused None x = Ok x
unless_refused (Some e) x = Err e

-- ---- lowering

-- the crates of a part, whose rows are numbered from n on, behind that many rows that are shown
abbrev pub lowered_behind : ℕ → ℕ → ProjectPart → Result (List Crate) LowerError
lowered_behind limit n part = unless_refused (part_refusal limit n part) (crates_from n part)

-- the rows of a toolchain's libraries and of a project, as one part
abbrev pub both : ProjectPart → ProjectPart → ProjectPart
both libraries project = record {
  rows = libraries.rows ++ project.rows;
  wanted = libraries.wanted ++ project.wanted;
  bad_names = libraries.bad_names ++ project.bad_names;
}

-- the crates of all rows by their numbers, where so many of the libraries' rows are shown, or why there are
-- none
unfoldable pub lowered : ℕ → ProjectPart → ℕ → ProjectPart → Result (List Crate) LowerError
lowered limit libraries shown project =
    unless_refused (refusal limit libraries shown project) (crates_from 0 (both libraries project))

-- a Cargo workspace as the project itself, whose rows are numbered from n on
unfoldable pub cargo_rows : FileNumbers → Facts → Public → ℕ → Workspace → ProjectPart
cargo_rows files facts public n w = cargo_part facts 1 public w (owners files w n)

-- ---- graphs

-- the dependency that a crate of a graph has
abbrev pub dep_seen : Dependency (Idx CrateTag) → Dep
dep_seen d = record { name = d.name; target = target_of d; prelude = prelude_of d; sysroot = is_of_sysroot d }

-- the crate that a graph has
abbrev pub crate_seen : CrateBuilder → Crate
crate_seen krate = record {
  root = krate.basic.root_file_id;
  columns = columns_seen krate;
  deps = map dep_seen krate.basic.dependencies;
}

-- the graph has these crates and no others, in order, and the limit
pub record HasCrates (limit : ℕ) (graph : Graph) (crates : Result (List Crate) LowerError) : Type 0 where
  pub crates_are : crates ≡ Ok (map crate_seen graph.crates)
  pub limit_is : graph.limit ≡ limit

-- a call gives the graph of a lowering, or its refusal; running out of memory says nothing of it
abbrev pub IsLowered : ℕ → Result Graph LowerError → Result (List Crate) LowerError → Type 0
IsLowered limit (Ok graph) crates = HasCrates limit graph crates
IsLowered limit (Err e) crates = Refuses e crates

-- the new graph has the old one's crates, and behind them these, in order, and the old limit
pub record HasCratesBehind (old new : Graph) (added : Result (List Crate) LowerError) : Type 0 where
  pub crates : List Crate
  pub added_are : added ≡ Ok crates
  pub crates_are : map crate_seen new.crates ≡ map crate_seen old.crates ++ crates
  pub limit_is : new.limit ≡ old.limit

-- a call gives a graph with the crates of a lowering behind those that were there, or its refusal; running
-- out of memory says nothing of it
abbrev pub IsLoweredBehind : Graph → Result Graph LowerError → Result (List Crate) LowerError → Type 0
IsLoweredBehind old (Ok new) crates = HasCratesBehind old new crates
IsLoweredBehind old (Err e) crates = Refuses e crates

-- ---- which edges are missing

-- the crate of the edge's source has the edge's dependency
pub record HasDep (crates : List CrateBuilder) (e : Edge) : Type 0 where
  pub krate : CrateBuilder
  pub source : slice_get crates e.source ≡ Some krate
  pub has : Contains (map dep_seen krate.basic.dependencies) e.dep

-- a wanted edge is a dependency exactly where its target does not reach its source
abbrev pub LacksCyclesAlone : List Edge → List CrateBuilder → Type 0
LacksCyclesAlone wanted crates =
    (e : Edge) → Contains wanted e → HasDep crates e ↔ (Reaches (edges crates) e.dep.target e.source → ⊥)
