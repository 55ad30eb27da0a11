-- How wanted edges are gathered, in the order of their ranks.
use Rattle.std.proofs.Common.{◌≡◌, ◌&&◌, ◌==◌, not, is_some, slice_get, arith, Bool, true, false, Some, None, refl, if◌then◌else◌, ℕ, ◌+◌, ◌<◌, ◌≤◌, List, [], ◌∷◌, ◌++◌, map, Option, take, drop, length, get_or, sym, ap, append_assoc, ◌∙◌}
use Rattle.std.specs.List.{flat_map}
use Rattle.std.proofs.lemmas.List.{flat_map_more, take_more, take_all}
use Rattle.std.specs.Option.{option_and_then}
use Rattle.std.proofs.lemmas.List.{append-nil, drop_more, take-append-drop}
use Rattle.std.proofs.lemmas.List.Concat.{flat_map-append}
use Rattle.crate_graph_values.specs.Names.{has_dash, with_underscores}
use Rattle.pm_lower_crates.specs.Refusal.{IfBadName}
use Rattle.pm_lower_crates.specs.declared.lower_error.LowerError.{LowerError}
use Rattle.pm_lower_crates.specs.declared.lower_error.LowerError.TheVariants.{BadCrateName, TooMany, OutOfMemory}
use Rattle.pm_lower_crates.specs.Rows.{Owner, Row, library, library_at}
use Rattle.pm_lower_crates.specs.Gathering.{libraries_of, macros_of, to_dependencies, to_dependency, to_libraries}
use Rattle.pm_lower_crates.specs.WantedEdges.{Edge, Public, bad_name_of, bad_names_of, edge, is_delayed, is_for, agree, to_lib, to_library, to_owner, to_package, to_public, uses_library}
use Rattle.base_text_paths.specs.Arena.{number_of}
use Rattle.pm_cargo_packages.specs.declared.package.PackageDependency.{PackageDependency}

-- one more item's part comes behind those of the items before it
pub part_more : {X A : Type 0} (f : X → List A) (old cur new : List A) (xs : List X) (i : ℕ) (x : X) → i < length xs → x ≡ get_or xs i x
    → cur ≡ old ++ flat_map f (take i xs) → new ≡ cur ++ f x → new ≡ old ++ flat_map f (take (i + 1) xs)
part_more f old cur new xs i x within is so_far now =
    now ∙ ap (λ ys. ys ++ f x) so_far ∙ flat_map_more f old (take i xs) x
    ∙ ap (λ y. old ++ flat_map f (take i xs ++ y ∷ [])) is ∙ ap (λ ys. old ++ flat_map f ys) (sym (take_more xs i x within))

pub part_all : {X A : Type 0} (f : X → List A) (old cur : List A) (xs : List X) (i : ℕ) → length xs ≤ i → cur ≡ old ++ flat_map f (take i xs) → cur ≡ old ++ flat_map f xs
part_all f old cur xs i past so_far = so_far ∙ ap (λ ys. old ++ flat_map f ys) (take_all i xs past)

pub row_with_library : (lib row : Row) (e : Edge) → uses_library lib row ≡ true → e ≡ edge row.number (with_underscores lib.target.name) lib.number → e ∷ [] ≡ to_library (Some lib) row
row_with_library lib row e does is = ap (λ x. x ∷ []) is ∙ ap (λ b. if b then edge row.number (with_underscores lib.target.name) lib.number ∷ [] else []) (sym does)

pub row_without_library : (lib row : Row) → uses_library lib row ≡ false → [] ≡ to_library (Some lib) row
row_without_library lib row does = ap (λ b. if b then edge row.number (with_underscores lib.target.name) lib.number ∷ [] else []) (sym does)

-- the edges to the public rows, and that to the package's library where there is one
pub libraries_are : (public : Public) (lib : Option Row) (row : Row) (old mid new : List Edge) → mid ≡ old ++ map (to_public row.number) public.rows → new ≡ mid ++ to_library lib row
    → new ≡ old ++ libraries_of public lib row
libraries_are public lib row old mid new first second =
    second ∙ ap (λ es. es ++ to_library lib row) first ∙ append_assoc old (map (to_public row.number) public.rows) (to_library lib row)

-- the edges of a package's rows, by both loops
pub first_are : (public : Public) (o : Owner) (rows again : List Row) (old mid new : List Edge) → rows ≡ o.rows → again ≡ o.rows → mid ≡ old ++ flat_map (macros_of public) rows
    → new ≡ mid ++ flat_map (libraries_of public (library o.rows)) again → new ≡ old ++ to_libraries public o
unfolding to_libraries
first_are public o rows again old mid new is again_is first second =
    second ∙ ap (λ es. es ++ flat_map (libraries_of public (library o.rows)) again) first
    ∙ append_assoc old (flat_map (macros_of public) rows) (flat_map (libraries_of public (library o.rows)) again)
    ∙ ap (λ rs. old ++ (flat_map (macros_of public) rs ++ flat_map (libraries_of public (library o.rows)) again)) is
    ∙ ap (λ rs. old ++ (flat_map (macros_of public) o.rows ++ flat_map (libraries_of public (library o.rows)) rs)) again_is

no_more : (old : List Edge) → old ≡ old ++ []
no_more old = sym (append-nil old)

no_owner_edges : (delayed : Bool) (from : Owner) (d : PackageDependency) (rows : List Row) → flat_map (to_owner delayed from d None) rows ≡ []
no_owner_edges delayed from d [] = refl
no_owner_edges delayed from d (r ∷ rs) = no_owner_edges delayed from d rs

no_package_edges : (delayed : Bool) (from : Owner) (d : PackageDependency) (o : Owner) (rows : List Row) → library o.rows ≡ None → flat_map (to_owner delayed from d (Some o)) rows ≡ []
no_package_edges delayed from d o [] none = refl
no_package_edges delayed from d o (r ∷ rs) none =
    ap (λ l. to_package delayed from d o l r ++ flat_map (to_owner delayed from d (Some o)) rs) none ∙ no_package_edges delayed from d o rs none

lib_edges : (delayed : Bool) (from : Owner) (d : PackageDependency) (o : Owner) (lib : Row) (rows : List Row) → library o.rows ≡ Some lib
    → flat_map (to_lib delayed from d o lib) rows ≡ flat_map (to_owner delayed from d (Some o)) rows
lib_edges delayed from d o lib [] some = refl
lib_edges delayed from d o lib (r ∷ rs) some =
    ap (λ es. to_lib delayed from d o lib r ++ es) (lib_edges delayed from d o lib rs some) ∙ ap (λ l. to_package delayed from d o l r ++ flat_map (to_owner delayed from d (Some o)) rs) (sym some)

pub without_rows : (delayed : Bool) (owners : List Owner) (from : Owner) (d : PackageDependency) (rows : List Row) (old : List Edge) → rows ≡ from.rows → length rows ≡ 0 → old ≡ old ++ to_dependency delayed owners from d
without_rows delayed owners from d [] old agree none = no_more old ∙ ap (λ rs. old ++ flat_map (to_owner delayed from d (slice_get owners (number_of d.pkg))) rs) agree
without_rows delayed owners from d (r ∷ rs) old agree none = absurd (omega (arith, none))

pub without_owner : (delayed : Bool) (owners : List Owner) (from : Owner) (d : PackageDependency) (old : List Edge) → slice_get owners (number_of d.pkg) ≡ None → old ≡ old ++ to_dependency delayed owners from d
without_owner delayed owners from d old none =
    no_more old ∙ ap (λ es. old ++ es) (sym (no_owner_edges delayed from d from.rows)) ∙ ap (λ o. old ++ flat_map (to_owner delayed from d o) from.rows) (sym none)

pub without_library : (delayed : Bool) (owners : List Owner) (from : Owner) (d : PackageDependency) (o : Owner) (old : List Edge) → slice_get owners (number_of d.pkg) ≡ Some o → library o.rows ≡ None
    → old ≡ old ++ to_dependency delayed owners from d
without_library delayed owners from d o old some none =
    no_more old ∙ ap (λ es. old ++ es) (sym (no_package_edges delayed from d o from.rows none)) ∙ ap (λ x. old ++ flat_map (to_owner delayed from d x) from.rows) (sym some)

pub with_library : (delayed : Bool) (owners : List Owner) (from : Owner) (d : PackageDependency) (o : Owner) (lib : Row) (old cur : List Edge) (rows : List Row)
    → slice_get owners (number_of d.pkg) ≡ Some o → library o.rows ≡ Some lib → rows ≡ from.rows → cur ≡ old ++ flat_map (to_lib delayed from d o lib) rows → cur ≡ old ++ to_dependency delayed owners from d
with_library delayed owners from d o lib old cur rows some is agree now =
    now ∙ ap (λ rs. old ++ flat_map (to_lib delayed from d o lib) rs) agree ∙ ap (λ es. old ++ es) (lib_edges delayed from d o lib from.rows is)
    ∙ ap (λ x. old ++ flat_map (to_owner delayed from d x) from.rows) (sym some)

-- what a row's edge to a library comes to, by what the row asks for
pub row_asks : (delayed : Bool) (from : Owner) (d : PackageDependency) (to : Owner) (lib row : Row) (e : Edge) → is_for d row ≡ true → agree delayed (is_delayed from d to row) ≡ true
    → e ≡ edge row.number d.name lib.number → e ∷ [] ≡ to_lib delayed from d to lib row
row_asks delayed from d to lib row e its now is = ap (λ x. x ∷ []) is ∙ ap (λ b. if b then edge row.number d.name lib.number ∷ [] else []) (sym (ap (λ b. b && agree delayed (is_delayed from d to row)) its ∙ now))

pub row_asks_other : (delayed : Bool) (from : Owner) (d : PackageDependency) (to : Owner) (lib row : Row) (old : List Edge) → is_for d row ≡ true → agree delayed (is_delayed from d to row) ≡ false
    → old ≡ old ++ to_lib delayed from d to lib row
row_asks_other delayed from d to lib row old its now = no_more old ∙ ap (λ b. old ++ (if b then edge row.number d.name lib.number ∷ [] else [])) (sym (ap (λ b. b && agree delayed (is_delayed from d to row)) its ∙ now))

pub row_asks_none : (delayed : Bool) (from : Owner) (d : PackageDependency) (to : Owner) (lib row : Row) (old : List Edge) → is_for d row ≡ false → old ≡ old ++ to_lib delayed from d to lib row
row_asks_none delayed from d to lib row old its = no_more old ∙ ap (λ b. old ++ (if b && agree delayed (is_delayed from d to row) then edge row.number d.name lib.number ∷ [] else [])) (sym its)

pub same_is : (a b : Bool) → a ≡ b → agree a b ≡ true
same_is true b is = sym is
same_is false b is = ap not (sym is)

pub unlike : (a b : Bool) → a ≡ not b → agree a b ≡ false
unlike true b is = grind arith
unlike false b is = grind arith

-- a name is bad where all three parts of the test hold
gated : (a b c : Bool) (name : List ℕ) → a ≡ true → b ≡ true → (if a && b && c then name ∷ [] else []) ≡ (if c then name ∷ [] else [])
gated a b c name p q = ap (λ x. if x && b && c then name ∷ [] else []) p ∙ ap (λ x. if x && c then name ∷ [] else []) q

shut : (a c : Bool) (name : List ℕ) → (if a && false && c then name ∷ [] else []) ≡ []
shut true c name = refl
shut false c name = refl

shut_last : (a b : Bool) (name : List ℕ) → (if a && b && false then name ∷ [] else []) ≡ []
shut_last true true name = refl
shut_last true false name = refl
shut_last false b name = refl

pub good_without_library : (owners : List Owner) (from : Owner) (d : PackageDependency) → library_at owners (number_of d.pkg) ≡ None → bad_name_of owners from d ≡ []
good_without_library owners from d none = ap (λ l. if not (length from.rows == 0) && is_some l && has_dash d.name then d.name ∷ [] else []) none ∙ shut (not (length from.rows == 0)) (has_dash d.name) d.name

pub good_without_dash : (owners : List Owner) (from : Owner) (d : PackageDependency) → has_dash d.name ≡ false → bad_name_of owners from d ≡ []
good_without_dash owners from d none = ap (λ b. if not (length from.rows == 0) && is_some (library_at owners (number_of d.pkg)) && b then d.name ∷ [] else []) none ∙ shut_last (not (length from.rows == 0)) (is_some (library_at owners (number_of d.pkg))) d.name

pub bad_with_dash : (owners : List Owner) (from : Owner) (d : PackageDependency) (lib : Row) → (length from.rows == 0) ≡ false → library_at owners (number_of d.pkg) ≡ Some lib → has_dash d.name ≡ true → bad_name_of owners from d ≡ d.name ∷ []
bad_with_dash owners from d lib rows some dash =
    gated (not (length from.rows == 0)) (is_some (library_at owners (number_of d.pkg))) (has_dash d.name) d.name (ap not rows) (ap is_some some) ∙ ap (λ b. if b then d.name ∷ [] else []) dash

pub library_there : (owners : List Owner) (place : ℕ) (o : Owner) → slice_get owners place ≡ Some o → library_at owners place ≡ library o.rows
library_there owners place o some = ap (option_and_then (λ x. library x.rows)) some

pub library_nowhere : (owners : List Owner) (place : ℕ) → slice_get owners place ≡ None → library_at owners place ≡ None
library_nowhere owners place none = ap (option_and_then (λ x. library x.rows)) none

pub bad_weaker : (e : LowerError) (P Q : List ℕ → Type 0) → ((name : List ℕ) → P name → Q name) → IfBadName e P → IfBadName e Q
bad_weaker (BadCrateName name) P Q so h = so name h
bad_weaker (TooMany limit) P Q so h = h
bad_weaker OutOfMemory P Q so h = tt

front_of : {A : Type 0} (xs ys : List A) (x : A) → slice_get xs 0 ≡ Some x → slice_get (xs ++ ys) 0 ≡ Some x
front_of [] ys x is = cc
front_of (z ∷ zs) ys x is = is

pub first_bad : {X A : Type 0} (f : X → List A) (xs : List X) (i : ℕ) (x : X) (a : A) → i < length xs → x ≡ get_or xs i x → flat_map f (take i xs) ≡ [] → slice_get (f x) 0 ≡ Some a
    → slice_get (flat_map f xs) 0 ≡ Some a
first_bad f xs i x a within is before now =
    let cut : xs ≡ take i xs ++ x ∷ drop (i + 1) xs = sym (take-append-drop i xs) ∙ ap (λ ys. take i xs ++ ys) (drop_more xs i x within) ∙ ap (λ y. take i xs ++ y ∷ drop (i + 1) xs) (sym is) in
    ap (λ ys. slice_get (flat_map f ys) 0) cut ∙ ap (λ ys. slice_get ys 0) (flat_map-append f (take i xs) (x ∷ drop (i + 1) xs) ∙ ap (λ ys. ys ++ flat_map f (x ∷ drop (i + 1) xs)) before)
    ∙ front_of (f x) (flat_map f (drop (i + 1) xs)) a now

pub good_more : {X A : Type 0} (f : X → List A) (xs : List X) (i : ℕ) (x : X) → i < length xs → x ≡ get_or xs i x → flat_map f (take i xs) ≡ [] → f x ≡ [] → flat_map f (take (i + 1) xs) ≡ []
good_more f xs i x within is before now = sym (part_more f [] [] [] xs i x within is (sym before) (sym now))

pub good_all : {X A : Type 0} (f : X → List A) (xs : List X) (i : ℕ) → length xs ≤ i → flat_map f (take i xs) ≡ [] → flat_map f xs ≡ []
good_all f xs i past before = sym (part_all f [] [] xs i past (sym before))

pub all_dependencies : (delayed : Bool) (owners : List Owner) (from : Owner) (old cur : List Edge) (ds : List PackageDependency) → ds ≡ from.of.dependencies
    → cur ≡ old ++ flat_map (to_dependency delayed owners from) ds → cur ≡ old ++ to_dependencies delayed owners from
unfolding to_dependencies
all_dependencies delayed owners from old cur ds agree now = now ∙ ap (λ xs. old ++ flat_map (to_dependency delayed owners from) xs) agree

pub all_names : (owners : List Owner) (from : Owner) (ds : List PackageDependency) → ds ≡ from.of.dependencies → flat_map (bad_name_of owners from) ds ≡ bad_names_of owners from
unfolding bad_names_of
all_names owners from ds agree = ap (flat_map (bad_name_of owners from)) agree
