-- The edges that the rows of a JSON project want to other rows, each behind its rank: for each crate first
-- those to its toolchain's libraries, and then its dependencies in their order. A dependency on a crate
-- without a row is left out, and refuses nothing. The rule is that of rust-analyzer's
-- `project_json_to_crate_graph`.
use Rattle.std.specs.Prelude.{ℕ, List, [], ◌∷◌, ◌++◌, length, map, Option, Some, None}
use Rattle.std.specs.Option.{option_map, option_to_list}
use Rattle.pm_json.specs.declared.dep.Dep.{Dep}
use Rattle.pm_lower_crates.specs.WantedEdges.{Edge, Public, RankedEdge, by_place, edge, to_macros, to_public, with_rank}
use Rattle.pm_lower_crates.specs.JsonRows.{JsonRow, json_row_at}

-- the edges of a row to a toolchain's libraries: to the public rows, and to the library of procedural macros
abbrev pub json_to_libraries : Public → JsonRow → List Edge
json_to_libraries public row =
    map (to_public row.number) public.rows ++ to_macros public.macros row.number row.of.is_proc_macro

-- the edge of a row to that of a dependency's crate, where it has one
abbrev pub to_row : List (Option JsonRow) → JsonRow → Dep → List Edge
to_row rows from dep =
    option_to_list (option_map (λ to. edge from.number dep.name to.number) (json_row_at rows dep.krate.0))

-- (q, 1, c, i): the row of crate c of part q to the i-th of the libraries
abbrev pub json_library_edges : ℕ → Public → ℕ → JsonRow → List RankedEdge
json_library_edges q public c row =
    by_place (λ i e. with_rank (q ∷ 1 ∷ c ∷ i ∷ []) (e ∷ [])) 0 (json_to_libraries public row)

-- (q, 1, c, i): the row of crate c of part q to that of a dependency, behind those libraries
abbrev pub dependency_edges : ℕ → Public → List (Option JsonRow) → ℕ → JsonRow → List RankedEdge
dependency_edges q public rows c row =
    by_place (λ i dep. with_rank (q ∷ 1 ∷ c ∷ i ∷ []) (to_row rows row dep))
    (length (json_to_libraries public row)) row.of.deps

-- all that the row of crate c of part q wants
unfoldable pub edges_of_row : ℕ → Public → List (Option JsonRow) → ℕ → Option JsonRow → List RankedEdge
edges_of_row q public rows c None = []
edges_of_row q public rows c (Some row) =
    json_library_edges q public c row ++ dependency_edges q public rows c row

-- all that the rows of a part want, by the crates' numbers; the part of a project itself is 1
abbrev pub json_ranked_edges : ℕ → Public → List (Option JsonRow) → List RankedEdge
json_ranked_edges q public rows = by_place (edges_of_row q public rows) 0 rows
