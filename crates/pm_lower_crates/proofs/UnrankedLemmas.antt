-- The wanted edges without their ranks are those that are gathered.
use Rattle.std.proofs.Common.{◌≡◌, ℕ, ◌+◌, Bool, true, false, List, [], ◌∷◌, ◌++◌, map, length, Option, slice_get, refl, ap, ◌∙◌}
use Rattle.std.specs.List.{flat_map}
use Rattle.std.proofs.lemmas.List.{map-append}
use Rattle.base_text_paths.specs.Arena.{number_of}
use Rattle.pm_cargo_packages.specs.declared.package.PackageDependency.{PackageDependency}
use Rattle.pm_lower_crates.specs.Gathering.{edges_between, libraries_of, macros_of, to_dependencies, to_dependency, to_libraries}
use Rattle.pm_lower_crates.specs.Rows.{Owner, Row, is_macro_row, library}
use Rattle.pm_lower_crates.specs.WantedEdges.{Dep, Edge, Public, RankedEdge, by_place, first_edges, later_edges, library_edges, macro_edges, public_edges, to_library, to_macros, to_owner, to_public, unranked, wanted_of_owners, with_rank}

-- edges behind a rank, without it
pub without_rank : (rank : List ℕ) (edges : List Edge) → map (λ (r : RankedEdge). r.edge) (with_rank rank edges) ≡ edges
without_rank rank [] = refl
without_rank rank (e ∷ es) = ap (λ xs. e ∷ xs) (without_rank rank es)

pub map_flat : {A B C : Type 0} (g : B → C) (f : A → List B) (h : A → List C) → ((x : A) → map g (f x) ≡ h x) → (xs : List A) → map g (flat_map f xs) ≡ flat_map h xs
map_flat g f h each [] = refl
map_flat g f h each (x ∷ xs) = map-append g (f x) (flat_map f xs) ∙ ap (λ ys. ys ++ map g (flat_map f xs)) (each x) ∙ ap (λ ys. h x ++ ys) (map_flat g f h each xs)

pub map_by_place : {A B C : Type 0} (g : B → C) (f : ℕ → A → List B) (h : A → List C) → ((n : ℕ) (x : A) → map g (f n x) ≡ h x) → (n : ℕ) (xs : List A) → map g (by_place f n xs) ≡ flat_map h xs
map_by_place g f h each n [] = refl
map_by_place g f h each n (x ∷ xs) = map-append g (f n x) (by_place f (n + 1) xs) ∙ ap (λ ys. ys ++ map g (by_place f (n + 1) xs)) (each n x) ∙ ap (λ ys. h x ++ ys) (map_by_place g f h each (n + 1) xs)

-- an edge alone of each item
pub map_each : {A : Type 0} (f : A → Edge) (xs : List A) → flat_map (λ x. f x ∷ []) xs ≡ map f xs
map_each f [] = refl
map_each f (x ∷ xs) = ap (λ es. f x ∷ es) (map_each f xs)

abbrev edge_of : RankedEdge → Edge
edge_of r = r.edge

public_unranked : (q : ℕ) (public : Public) (p : ℕ) (row : Row) → map edge_of (public_edges q public p row) ≡ map (to_public row.number) public.rows
public_unranked q public p row =
    map_by_place edge_of (λ i (dep : Dep). with_rank (q ∷ 1 ∷ p ∷ 1 ∷ row.place ∷ i ∷ []) (to_public row.number dep ∷ [])) (λ (dep : Dep). to_public row.number dep ∷ [])
    (λ i dep. refl) 0 public.rows
    ∙ map_each (to_public row.number) public.rows

libraries_unranked : (q : ℕ) (public : Public) (p : ℕ) (lib : Option Row) (row : Row)
    → map edge_of (public_edges q public p row ++ library_edges q public p lib row) ≡ libraries_of public lib row
libraries_unranked q public p lib row =
    map-append edge_of (public_edges q public p row) (library_edges q public p lib row)
    ∙ ap (λ es. es ++ map edge_of (library_edges q public p lib row)) (public_unranked q public p row)
    ∙ ap (λ es. map (to_public row.number) public.rows ++ es) (without_rank (q ∷ 1 ∷ p ∷ 1 ∷ row.place ∷ length public.rows ∷ []) (to_library lib row))

first_unranked : (q : ℕ) (public : Public) (p : ℕ) (o : Owner) → map edge_of (first_edges q public p o) ≡ to_libraries public o
unfolding first_edges to_libraries
first_unranked q public p o =
    let macros = flat_map (macro_edges q public p) o.rows in
    let rest = flat_map (λ (row : Row). public_edges q public p row ++ library_edges q public p (library o.rows) row) o.rows in
    map-append edge_of macros rest
    ∙ ap (λ es. es ++ map edge_of rest) (map_flat edge_of (macro_edges q public p) (macros_of public)
    (λ row. without_rank (q ∷ 1 ∷ p ∷ 0 ∷ row.place ∷ []) (to_macros public.macros row.number (is_macro_row row.target.kind))) o.rows)
    ∙ ap (λ es. flat_map (macros_of public) o.rows ++ es) (map_flat edge_of (λ (row : Row). public_edges q public p row ++ library_edges q public p (library o.rows) row)
    (libraries_of public (library o.rows)) (libraries_unranked q public p (library o.rows)) o.rows)

later_unranked : (q step : ℕ) (delayed : Bool) (owners : List Owner) (p : ℕ) (o : Owner) → map edge_of (later_edges q step delayed owners p o) ≡ to_dependencies delayed owners o
unfolding later_edges to_dependencies
later_unranked q step delayed owners p o =
    map_by_place edge_of
    (λ d (dep : PackageDependency). flat_map (λ (row : Row). with_rank (q ∷ step ∷ p ∷ d ∷ row.place ∷ []) (to_owner delayed o dep (slice_get owners (number_of dep.pkg)) row)) o.rows)
    (to_dependency delayed owners o)
    (λ d dep. map_flat edge_of (λ (row : Row). with_rank (q ∷ step ∷ p ∷ d ∷ row.place ∷ []) (to_owner delayed o dep (slice_get owners (number_of dep.pkg)) row))
    (to_owner delayed o dep (slice_get owners (number_of dep.pkg)))
    (λ row. without_rank (q ∷ step ∷ p ∷ d ∷ row.place ∷ []) (to_owner delayed o dep (slice_get owners (number_of dep.pkg)) row)) o.rows) 0 o.of.dependencies

-- what the rows of a part want is what is gathered of them
pub wanted_are_gathered : (q : ℕ) (public : Public) (os : List Owner) → unranked (wanted_of_owners q public os) ≡ edges_between public os
wanted_are_gathered q public os =
    let one = by_place (first_edges q public) 0 os in
    let two = by_place (later_edges q 2 false os) 0 os in
    let three = by_place (later_edges q 3 true os) 0 os in
    map-append edge_of (one ++ two) three
    ∙ ap (λ es. es ++ map edge_of three) (map-append edge_of one two
    ∙ ap (λ es. es ++ map edge_of two) (map_by_place edge_of (first_edges q public) (to_libraries public) (first_unranked q public) 0 os)
    ∙ ap (λ es. flat_map (to_libraries public) os ++ es) (map_by_place edge_of (later_edges q 2 false os) (to_dependencies false os) (later_unranked q 2 false os) 0 os))
    ∙ ap (λ es. (flat_map (to_libraries public) os ++ flat_map (to_dependencies false os) os) ++ es) (map_by_place edge_of (later_edges q 3 true os) (to_dependencies true os) (later_unranked q 3 true os) 0 os)
