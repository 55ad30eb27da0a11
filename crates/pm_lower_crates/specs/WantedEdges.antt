-- The edges that rows want to other rows, each behind its rank. Ranks are lists of numbers and compared as
-- such: the edges stand in ascending order, and no two have one rank. The rule is that of rust-analyzer's
-- `cargo_to_crate_graph`.
use Rattle.std.specs.Prelude.{ℕ, ◌+◌, Bool, true, false, not, ◌&&◌, List, [], ◌∷◌, ◌++◌, codes, map, length, Option, Some, None, ◌==◌, slice_get, is_some, if◌then◌else◌}
use Rattle.std.specs.List.{flat_map}
use Rattle.base_text_paths.specs.Arena.{number_of}
use Rattle.crate_graph_values.specs.Names.{has_dash, with_underscores}
use Rattle.pm_cargo_packages.specs.declared.package.DepKind.{DepKind}
use Rattle.pm_cargo_packages.specs.declared.package.DepKind.TheVariants.{Normal, Dev, Build}
use Rattle.pm_cargo_packages.specs.declared.package.PackageDependency.{PackageDependency}
use Rattle.pm_lower_crates.specs.Rows.{Owner, Row, is_build_script, is_lib, is_macro_row, library, library_at}

-- ---- edges

-- a dependency on the row of a number: the name under which code knows it, whether code names it with no
-- `extern crate`, and whether it comes with the language
pub record Dep : Type 0 where
  pub name : List ℕ
  pub target : ℕ
  pub prelude : Bool
  pub sysroot : Bool

-- an edge from the row of a number
pub record Edge : Type 0 where
  pub source : ℕ
  pub dep : Dep

-- an edge that is wanted, behind its rank
pub record RankedEdge : Type 0 where
  pub rank : List ℕ
  pub edge : Edge

-- the edge between two rows of one part: it is prelude and does not come with the language
abbrev pub edge : ℕ → List ℕ → ℕ → Edge
edge from name to = record {
  source = from;
  dep = record { name = name; target = to; prelude = true; sysroot = false };
}

-- ---- to a toolchain's libraries

-- what the rows of a project may depend on of its toolchain's libraries: the public rows, in the order of the
-- rows, each with its name and its marks, and the row of the library of procedural macros, where there is one
pub record Public : Type 0 where
  pub rows : List Dep
  pub macros : Option ℕ

-- no libraries
abbrev pub no_public : Public
no_public = record { rows = []; macros = None }

-- the edge of a row to the library of procedural macros, which code of such macros names with no `extern
-- crate`
abbrev pub to_macros : Option ℕ → ℕ → Bool → List Edge
to_macros None source names_it = []
to_macros (Some target) source names_it =
    record {
      source = source;
      dep = record { name = codes "proc_macro"; target = target; prelude = names_it; sysroot = true };
    }
    ∷ []

-- the edge of a row to a public row
abbrev pub to_public : ℕ → Dep → Edge
to_public source dep = record { source = source; dep = dep }

-- ---- kinds of dependencies

-- needed for tests, examples and benchmarks alone
abbrev pub is_dev_edge : DepKind → Bool
is_dev_edge Normal = false
is_dev_edge Dev = true
is_dev_edge Build = false

-- needed by the build script alone
abbrev pub is_build : DepKind → Bool
is_build Normal = false
is_build Dev = false
is_build Build = true

-- two truth values are the same
abbrev pub agree : Bool → Bool → Bool
agree true b = b
agree false b = not b

-- ---- to the library of a row's own package

-- a row uses its package's library, unless it is that library or a build script
abbrev pub uses_library : Row → Row → Bool
uses_library lib row = not (row.place == lib.place) && not (is_build_script row.target.kind)

-- the edge of a row to its package's library, which is named by its target with an underscore for each dash
abbrev pub to_library : Option Row → Row → List Edge
to_library None row = []
to_library (Some lib) row =
    if uses_library lib row then edge row.number (with_underscores lib.target.name) lib.number ∷ [] else []

-- ---- to the libraries of other packages

-- an edge is delayed where its dependency is a development one, the row a library, and both packages are
-- members
abbrev pub is_delayed : Owner → PackageDependency → Owner → Row → Bool
is_delayed from dependency to row =
    is_dev_edge dependency.kind && is_lib row.target.kind && from.of.is_member && to.of.is_member

-- a row asks for a dependency where being a build script is the same as the dependency's being a build one
abbrev pub is_for : PackageDependency → Row → Bool
is_for dependency row = agree (is_build_script row.target.kind) (is_build dependency.kind)

-- the edge of a row to the library of a dependency's package: a delayed one, or one that is not
abbrev pub to_lib : Bool → Owner → PackageDependency → Owner → Row → Row → List Edge
to_lib delayed from dependency to lib row =
    if is_for dependency row
    && agree delayed (is_delayed from dependency to row) then edge row.number dependency.name lib.number ∷ []
    else []

-- the same where the package has a library, and else no edge
abbrev pub to_package : Bool → Owner → PackageDependency → Owner → Option Row → Row → List Edge
to_package delayed from dependency to None row = []
to_package delayed from dependency to (Some lib) row = to_lib delayed from dependency to lib row

-- the same where there is such a package
abbrev pub to_owner : Bool → Owner → PackageDependency → Option Owner → Row → List Edge
to_owner delayed from dependency None row = []
to_owner delayed from dependency (Some to) row = to_package delayed from dependency to (library to.rows) row

-- ---- in order of rank

-- the parts that a list's items give, by their places from n on
abbrev pub by_place : {A B : Type 0} → (ℕ → A → List B) → ℕ → List A → List B
by_place f n [] = []
by_place f n (x ∷ xs) = f n x ++ by_place f (n + 1) xs

-- edges behind a rank
abbrev pub with_rank : List ℕ → List Edge → List RankedEdge
with_rank rank edges = map (λ e. record { rank = rank; edge = e }) edges

-- (q, 1, p, 0, t): row (p, t) of part q to the library of procedural macros
abbrev pub macro_edges : ℕ → Public → ℕ → Row → List RankedEdge
macro_edges q public p row =
    with_rank (q ∷ 1 ∷ p ∷ 0 ∷ row.place ∷ [])
    (to_macros public.macros row.number (is_macro_row row.target.kind))

-- (q, 1, p, 1, t, i): row (p, t) of part q to the i-th public row
abbrev pub public_edges : ℕ → Public → ℕ → Row → List RankedEdge
public_edges q public p row =
    by_place (λ i dep. with_rank (q ∷ 1 ∷ p ∷ 1 ∷ row.place ∷ i ∷ []) (to_public row.number dep ∷ [])) 0
    public.rows

-- (q, 1, p, 1, t, last): row (p, t) of part q to its package's library, behind all public rows
abbrev pub library_edges : ℕ → Public → ℕ → Option Row → Row → List RankedEdge
library_edges q public p lib row =
    with_rank (q ∷ 1 ∷ p ∷ 1 ∷ row.place ∷ length public.rows ∷ []) (to_library lib row)

-- the edges of a package's rows that no dependency of it asks for
unfoldable pub first_edges : ℕ → Public → ℕ → Owner → List RankedEdge
first_edges q public p o =
    flat_map (macro_edges q public p) o.rows
    ++ flat_map (λ row. public_edges q public p row ++ library_edges q public p (library o.rows) row) o.rows

-- (q, step, p, d, t): row (p, t) of part q to the library of dependency d's package
unfoldable pub later_edges : ℕ → ℕ → Bool → List Owner → ℕ → Owner → List RankedEdge
later_edges q step delayed owners p o =
    by_place
    (λ d dep. flat_map (λ row. with_rank (q ∷ step ∷ p ∷ d ∷ row.place
    ∷ []) (to_owner delayed o dep (slice_get owners (number_of dep.pkg)) row)) o.rows)
    0 o.of.dependencies

-- all that the rows of part q want, which is a Cargo workspace
abbrev pub wanted_of_owners : ℕ → Public → List Owner → List RankedEdge
wanted_of_owners q public owners =
    by_place (first_edges q public) 0 owners  -- (q, 1, ..)
    ++ by_place (later_edges q 2 false owners) 0 owners  -- (q, 2, ..), which are not delayed
    ++ by_place (later_edges q 3 true owners) 0 owners  -- (q, 3, ..), the delayed ones

-- edges without their ranks, in their order
abbrev pub unranked : List RankedEdge → List Edge
unranked edges = map (λ r. r.edge) edges

-- ---- names

-- a dependency is badly named where its name holds a dash, its package has a library, and the package that
-- depends on it has a row
abbrev pub is_badly_named : List Owner → Owner → PackageDependency → Bool
is_badly_named owners from d =
    not (length from.rows == 0) && is_some (library_at owners (number_of d.pkg)) && has_dash d.name

-- the name of a dependency that is badly named
abbrev pub bad_name_of : List Owner → Owner → PackageDependency → List (List ℕ)
bad_name_of owners from d = if is_badly_named owners from d then d.name ∷ [] else []

-- such names of a package, by dependency
unfoldable pub bad_names_of : List Owner → Owner → List (List ℕ)
bad_names_of owners from = flat_map (bad_name_of owners from) from.of.dependencies

-- such names of some packages, by package and dependency
abbrev pub bad_names_of_owners : List Owner → List (List ℕ)
bad_names_of_owners owners = flat_map (bad_names_of owners) owners
