-- Rows are numbered by their places, and wanted edges are between rows.
use Rattle.std.proofs.Common.{◌≡◌, ℕ, zero, suc, ◌+◌, ◌<◌, ◌≤◌, Bool, true, false, List, [], ◌∷◌, ◌++◌, map, length, get_or, filter, Option, Some, None, slice_get, refl, sym, ap, ◌∙◌, subst, arith, if◌then◌else◌, ◌&&◌}
use Rattle.std.specs.List.{All, flat_map, last_or, range_with_len}
use Rattle.std.specs.Prelude.{IfSome}
use Rattle.std.proofs.lemmas.List.{length-append, map-append, get_or_append_left, get_or-append-add, get_or-map}
use Rattle.std.proofs.lemmas.List.FromFn.{get_or-range_with_len}
use Rattle.std.proofs.lemmas.List.Elements.{All-nil, All-cons, All-head, All-tail, All-append, All-filter, All-weaker}
use Rattle.base_text_paths.specs.Arena.{number_of}
use Rattle.pm_cargo_packages.specs.declared.package.PackageData.{PackageData}
use Rattle.pm_cargo_packages.specs.declared.package.PackageDependency.{PackageDependency}
use Rattle.pm_cargo_packages.specs.declared.target.TargetData.{TargetData}
use Rattle.pm_cargo.specs.Workspace.{Workspace}
use Rattle.pm_lower_crates.specs.Front.{IsPublicIn}
use Rattle.pm_lower_crates.specs.Gathering.{AreNumbered, edges_between, found_targets, libraries_of, macros_of, owner_by, owners_by, to_dependencies, to_dependency, to_libraries}
use Rattle.pm_lower_crates.specs.Keeping.{StartBehind}
use Rattle.pm_lower_crates.specs.KeptEdges.{IsWithinRows}
use Rattle.pm_lower_crates.specs.Rows.{Owner, Row, is_lib, is_macro_row, library, rows_from, rows_of}
use Rattle.pm_lower_crates.specs.WantedEdges.{Dep, Edge, Public, is_delayed, is_for, agree, to_library, to_macros, to_owner, to_package, to_public, uses_library}

range_append : (a m n : ℕ) → range_with_len a (m + n) ≡ range_with_len a m ++ range_with_len (a + m) n
range_append a zero n = ap (range_with_len a) (let e : zero + n ≡ n = omega arith in e) ∙ ap (λ b. range_with_len b n) (let e : a ≡ a + zero = omega arith in e)
range_append a (suc m) n =
    ap (range_with_len a) (let e : suc m + n ≡ suc (m + n) = omega arith in e) ∙ ap (λ ns. a ∷ ns) (range_append (a + 1) m n)
    ∙ ap (λ b. a ∷ (range_with_len (a + 1) m ++ range_with_len b n)) (let e : (a + 1) + m ≡ a + suc m = omega arith in e)

numbers_of : (p : ℕ) (of : PackageData) (n : ℕ) (ts : List (ℕ × TargetData × ℕ)) → map (λ r. r.number) (rows_from p of n ts) ≡ range_with_len n (length (rows_from p of n ts))
numbers_of p of n [] = refl
numbers_of p of n (t ∷ ts) = ap (λ ns. n ∷ ns) (numbers_of p of (n + 1) ts)

numbers_by : (w : Workspace) (p n : ℕ) (all : List PackageData) (fs : List (List (Option ℕ))) → map (λ r. r.number) (rows_of (owners_by w p n all fs)) ≡ range_with_len n (length (rows_of (owners_by w p n all fs)))
numbers_by w p n [] fs = refl
numbers_by w p n (of ∷ more) [] = refl
numbers_by w p n (of ∷ more) (f ∷ fs) =
    let rows = (owner_by w p n of f).rows in
    let others = rows_of (owners_by w (p + 1) (n + length rows) more fs) in
    map-append (λ (r : Row). r.number) rows others ∙ ap (λ ns. ns ++ map (λ r. r.number) others) (numbers_of p of n (found_targets w of 0 f))
    ∙ ap (λ ns. range_with_len n (length rows) ++ ns) (numbers_by w (p + 1) (n + length rows) more fs)
    ∙ sym (range_append n (length rows) (length others)) ∙ ap (range_with_len n) (sym (length-append rows others))

-- rows by files are numbered through
pub are_numbered_by : (w : Workspace) (n : ℕ) (all : List PackageData) (fs : List (List (Option ℕ))) → AreNumbered n (rows_of (owners_by w 0 n all fs))
are_numbered_by w n all fs = numbers_by w 0 n all fs

all_left : {X : Type 0} (P : X → Type 0) (xs ys : List X) → All P (xs ++ ys) → All P xs
all_left P xs ys all = λ k d within. subst P (get_or_append_left xs ys d k within) (all k d (omega (arith, within, length-append xs ys)))

all_right : {X : Type 0} (P : X → Type 0) (xs ys : List X) → All P (xs ++ ys) → All P ys
all_right P xs ys all = λ k d within. subst P (get_or-append-add xs ys k d) (all (length xs + k) d (omega (arith, within, length-append xs ys)))

-- the numbers of all rows of an owner are below a count
abbrev AreBelow : ℕ → Owner → Type 0
AreBelow count o = All (λ r. r.number < count) o.rows

pub all_flat : {A B : Type 0} (P : B → Type 0) (f : A → List B) (Q : A → Type 0) → ((x : A) → Q x → All P (f x)) → (xs : List A) → All Q xs → All P (flat_map f xs)
all_flat P f Q each [] all = All-nil P
all_flat P f Q each (x ∷ xs) all = All-append P (f x) (flat_map f xs) (each x (All-head Q x xs all)) (all_flat P f Q each xs (All-tail Q x xs all))

pub all_flat_any : {A B : Type 0} (P : B → Type 0) (f : A → List B) → ((x : A) → All P (f x)) → (xs : List A) → All P (flat_map f xs)
all_flat_any P f each [] = All-nil P
all_flat_any P f each (x ∷ xs) = All-append P (f x) (flat_map f xs) (each x) (all_flat_any P f each xs)

pub all_if : {A : Type 0} (P : A → Type 0) (b : Bool) (x : A) → P x → All P (if b then x ∷ [] else [])
all_if P true x p = All-cons P x [] p (All-nil P)
all_if P false x p = All-nil P

last_all : {A : Type 0} (P : A → Type 0) (o : Option A) (xs : List A) (x : A) → ((y : A) → o ≡ Some y → P y) → All P xs → last_or o xs ≡ Some x → P x
last_all P o [] x first all is = first x is
last_all P o (y ∷ ys) x first all is = last_all P (Some y) ys x (λ z e. let agree : y ≡ z = cc in subst P agree (All-head P y ys all)) (All-tail P y ys all) is

all_got : {A : Type 0} (P : A → Type 0) (xs : List A) (i : ℕ) (x : A) → All P xs → slice_get xs i ≡ Some x → P x
all_got P [] i x all is = cc
all_got P (y ∷ ys) zero x all is = let agree : y ≡ x = cc in subst P agree (All-head P y ys all)
all_got P (y ∷ ys) (suc i) x all is = all_got P ys i x (All-tail P y ys all) is

rows_below : (n : ℕ) (rows : List Row) → AreNumbered n rows → All (λ r. r.number < n + length rows) rows
rows_below n rows numbers = λ k d within.
    let at : (get_or rows k d).number ≡ n + k = sym (get_or-map (λ (r : Row). r.number) rows k d 0 within) ∙ ap (λ ns. get_or ns k 0) numbers ∙ get_or-range_with_len n (length rows) k 0 within in
    omega (arith, at, within)

rows_above : (n : ℕ) (rows : List Row) → AreNumbered n rows → All (λ r. n ≤ r.number) rows
rows_above n rows numbers = λ k d within.
    let at : (get_or rows k d).number ≡ n + k = sym (get_or-map (λ (r : Row). r.number) rows k d 0 within) ∙ ap (λ ns. get_or ns k 0) numbers ∙ get_or-range_with_len n (length rows) k 0 within in
    omega (arith, at, within)

owners_below : (count : ℕ) (owners : List Owner) → All (λ r. r.number < count) (rows_of owners) → All (AreBelow count) owners
owners_below count [] all = All-nil (AreBelow count)
owners_below count (o ∷ os) all = All-cons (AreBelow count) o os (all_left (λ r. r.number < count) o.rows (rows_of os) all) (owners_below count os (all_right (λ r. r.number < count) o.rows (rows_of os) all))

library_below : (count : ℕ) (o : Owner) (lib : Row) → AreBelow count o → library o.rows ≡ Some lib → lib.number < count
library_below count o lib below is =
    last_all (λ r. r.number < count) None (filter (λ r. is_lib r.target.kind) o.rows) lib (λ y e. cc) (All-filter (λ r. is_lib r.target.kind) (λ r. r.number < count) o.rows below) is

pub macros_within : (count : ℕ) (macros : Option ℕ) → ((target : ℕ) → macros ≡ Some target → target < count) → (source : ℕ) (b : Bool) → source < count → All (IsWithinRows count) (to_macros macros source b)
macros_within count None known source b below = All-nil (IsWithinRows count)
macros_within count (Some target) known source b below = All-cons (IsWithinRows count) _ [] (record { source = below; target = known target refl }) (All-nil (IsWithinRows count))

pub public_within : (count : ℕ) (deps : List Dep) → All (λ d. d.target < count) deps → (source : ℕ) → source < count → All (IsWithinRows count) (map (to_public source) deps)
public_within count [] all source below = All-nil (IsWithinRows count)
public_within count (d ∷ ds) all source below =
    All-cons (IsWithinRows count) _ (map (to_public source) ds) (record { source = below; target = All-head (λ (x : Dep). x.target < count) d ds all })
    (public_within count ds (All-tail (λ (x : Dep). x.target < count) d ds all) source below)

own_within : (count : ℕ) (l : Option Row) → ((lib : Row) → l ≡ Some lib → lib.number < count) → (row : Row) → row.number < count → All (IsWithinRows count) (to_library l row)
own_within count None known row below = All-nil (IsWithinRows count)
own_within count (Some lib) known row below = all_if (IsWithinRows count) (uses_library lib row) _ (record { source = below; target = known lib refl })

module _ (count : ℕ) (public : Public) (known : IsPublicIn count public) where
  pub known_macros : (target : ℕ) → public.macros ≡ Some target → target < count
  known_macros target is = subst (λ (o : Option ℕ). IfSome o (λ t. t < count)) is known.macros

  libraries_within : (o : Owner) → AreBelow count o → All (IsWithinRows count) (to_libraries public o)
  unfolding to_libraries
  libraries_within o below =
      All-append (IsWithinRows count) (flat_map (macros_of public) o.rows) (flat_map (libraries_of public (library o.rows)) o.rows)
      (all_flat (IsWithinRows count) (macros_of public) (λ r. r.number < count) (λ r here. macros_within count public.macros known_macros r.number (is_macro_row r.target.kind) here) o.rows below)
      (all_flat (IsWithinRows count) (libraries_of public (library o.rows)) (λ r. r.number < count)
      (λ r here. All-append (IsWithinRows count) (map (to_public r.number) public.rows) (to_library (library o.rows) r) (public_within count public.rows known.rows r.number here)
      (own_within count (library o.rows) (λ lib is. library_below count o lib below is) r here)) o.rows below)

to_package_within : (count : ℕ) (delayed : Bool) (from : Owner) (d : PackageDependency) (to : Owner) (l : Option Row) → ((lib : Row) → l ≡ Some lib → lib.number < count) → (r : Row) → r.number < count
    → All (IsWithinRows count) (to_package delayed from d to l r)
to_package_within count delayed from d to None lib_below r below = All-nil (IsWithinRows count)
to_package_within count delayed from d to (Some lib) lib_below r below =
    all_if (IsWithinRows count) (is_for d r && agree delayed (is_delayed from d to r)) _ (record { source = below; target = lib_below lib refl })

to_owner_within : (count : ℕ) (delayed : Bool) (from : Owner) (d : PackageDependency) (to : Option Owner) → ((o : Owner) → to ≡ Some o → AreBelow count o) → (r : Row) → r.number < count
    → All (IsWithinRows count) (to_owner delayed from d to r)
to_owner_within count delayed from d None to_below r below = All-nil (IsWithinRows count)
to_owner_within count delayed from d (Some to) to_below r below = to_package_within count delayed from d to (library to.rows) (λ lib is. library_below count to lib (to_below to refl) is) r below

dependency_within : (count : ℕ) (delayed : Bool) (owners : List Owner) (from : Owner) → All (AreBelow count) owners → AreBelow count from → (d : PackageDependency) → All (IsWithinRows count) (to_dependency delayed owners from d)
dependency_within count delayed owners from all below d =
    all_flat (IsWithinRows count) (to_owner delayed from d (slice_get owners (number_of d.pkg))) (λ r. r.number < count)
    (to_owner_within count delayed from d (slice_get owners (number_of d.pkg)) (λ o is. all_got (AreBelow count) owners (number_of d.pkg) o all is)) from.rows below

dependencies_within : (count : ℕ) (delayed : Bool) (owners : List Owner) (from : Owner) → All (AreBelow count) owners → AreBelow count from → All (IsWithinRows count) (to_dependencies delayed owners from)
unfolding to_dependencies
dependencies_within count delayed owners from all below = all_flat_any (IsWithinRows count) (to_dependency delayed owners from) (dependency_within count delayed owners from all below) from.of.dependencies

wanted_below : (count : ℕ) (public : Public) (owners : List Owner) → IsPublicIn count public → All (AreBelow count) owners → All (IsWithinRows count) (edges_between public owners)
wanted_below count public owners known all =
    All-append (IsWithinRows count) (flat_map (to_libraries public) owners ++ flat_map (to_dependencies false owners) owners) (flat_map (to_dependencies true owners) owners)
    (All-append (IsWithinRows count) (flat_map (to_libraries public) owners) (flat_map (to_dependencies false owners) owners)
    (all_flat (IsWithinRows count) (to_libraries public) (AreBelow count) (libraries_within count public known) owners all)
    (all_flat (IsWithinRows count) (to_dependencies false owners) (AreBelow count) (λ o below. dependencies_within count false owners o all below) owners all))
    (all_flat (IsWithinRows count) (to_dependencies true owners) (AreBelow count) (λ o below. dependencies_within count true owners o all below) owners all)

some_more : (n m : ℕ) (o : Option ℕ) → IfSome o (λ t. t < n) → IfSome o (λ t. t < n + m)
some_more n m None h = h
some_more n m (Some t) h = omega (arith, h)

-- public rows are among more rows too
pub more_public : (n m : ℕ) (public : Public) → IsPublicIn n public → IsPublicIn (n + m) public
more_public n m public known = record {
  rows = All-weaker (λ (d : Dep). d.target < n) (λ (d : Dep). d.target < n + m) (λ d h. omega (arith, h)) public.rows known.rows;
  macros = some_more n m public.macros known.macros;
}

-- each wanted edge is between rows, or leads from a row to a public one before them
pub wanted_within : (n : ℕ) (public : Public) (owners : List Owner) → IsPublicIn n public → AreNumbered n (rows_of owners)
    → All (IsWithinRows (n + length (rows_of owners))) (edges_between public owners)
wanted_within n public owners known numbers =
    let count = n + length (rows_of owners) in
    wanted_below count public owners (more_public n (length (rows_of owners)) public known) (owners_below count owners (rows_below n (rows_of owners) numbers))

-- ---- sources

abbrev AreAbove : ℕ → Owner → Type 0
AreAbove n o = All (λ r. n ≤ r.number) o.rows

owners_above : (n : ℕ) (owners : List Owner) → All (λ r. n ≤ r.number) (rows_of owners) → All (AreAbove n) owners
owners_above n [] all = All-nil (AreAbove n)
owners_above n (o ∷ os) all = All-cons (AreAbove n) o os (all_left (λ r. n ≤ r.number) o.rows (rows_of os) all) (owners_above n os (all_right (λ r. n ≤ r.number) o.rows (rows_of os) all))

module _ (n : ℕ) where
  abbrev Behind : Edge → Type 0
  Behind e = n ≤ e.source

  pub macros_behind : (macros : Option ℕ) (source : ℕ) (b : Bool) → n ≤ source → All Behind (to_macros macros source b)
  macros_behind None source b h = All-nil Behind
  macros_behind (Some target) source b h = All-cons Behind _ [] h (All-nil Behind)

  pub public_behind : (deps : List Dep) (source : ℕ) → n ≤ source → All Behind (map (to_public source) deps)
  public_behind [] source h = All-nil Behind
  public_behind (d ∷ ds) source h = All-cons Behind _ (map (to_public source) ds) h (public_behind ds source h)

  own_behind : (l : Option Row) (row : Row) → n ≤ row.number → All Behind (to_library l row)
  own_behind None row h = All-nil Behind
  own_behind (Some lib) row h = all_if Behind (uses_library lib row) _ h

  libraries_behind : (public : Public) (o : Owner) → AreAbove n o → All Behind (to_libraries public o)
  unfolding to_libraries
  libraries_behind public o above =
      All-append Behind (flat_map (macros_of public) o.rows) (flat_map (libraries_of public (library o.rows)) o.rows)
      (all_flat Behind (macros_of public) (λ r. n ≤ r.number) (λ r h. macros_behind public.macros r.number (is_macro_row r.target.kind) h) o.rows above)
      (all_flat Behind (libraries_of public (library o.rows)) (λ r. n ≤ r.number)
      (λ r h. All-append Behind (map (to_public r.number) public.rows) (to_library (library o.rows) r) (public_behind public.rows r.number h) (own_behind (library o.rows) r h)) o.rows above)

  package_behind : (delayed : Bool) (from : Owner) (d : PackageDependency) (to : Owner) (l : Option Row) (r : Row) → n ≤ r.number → All Behind (to_package delayed from d to l r)
  package_behind delayed from d to None r h = All-nil Behind
  package_behind delayed from d to (Some lib) r h = all_if Behind (is_for d r && agree delayed (is_delayed from d to r)) _ h

  owner_behind : (delayed : Bool) (from : Owner) (d : PackageDependency) (to : Option Owner) (r : Row) → n ≤ r.number → All Behind (to_owner delayed from d to r)
  owner_behind delayed from d None r h = All-nil Behind
  owner_behind delayed from d (Some to) r h = package_behind delayed from d to (library to.rows) r h

  dependencies_behind : (delayed : Bool) (owners : List Owner) (from : Owner) → AreAbove n from → All Behind (to_dependencies delayed owners from)
  unfolding to_dependencies
  dependencies_behind delayed owners from above =
      all_flat_any Behind (to_dependency delayed owners from)
      (λ d. all_flat Behind (to_owner delayed from d (slice_get owners (number_of d.pkg))) (λ r. n ≤ r.number) (λ r h. owner_behind delayed from d (slice_get owners (number_of d.pkg)) r h) from.rows above)
      from.of.dependencies

-- each wanted edge leads from a row
pub wanted_behind : (n : ℕ) (public : Public) (owners : List Owner) → AreNumbered n (rows_of owners) → StartBehind n (edges_between public owners)
wanted_behind n public owners numbers =
    let all = owners_above n owners (rows_above n (rows_of owners) numbers) in
    let behind : Edge → Type 0 = λ e. n ≤ e.source in
    All-append behind (flat_map (to_libraries public) owners ++ flat_map (to_dependencies false owners) owners) (flat_map (to_dependencies true owners) owners)
    (All-append behind (flat_map (to_libraries public) owners) (flat_map (to_dependencies false owners) owners)
    (all_flat behind (to_libraries public) (AreAbove n) (libraries_behind n public) owners all)
    (all_flat behind (to_dependencies false owners) (AreAbove n) (λ o above. dependencies_behind n false owners o above) owners all))
    (all_flat behind (to_dependencies true owners) (AreAbove n) (λ o above. dependencies_behind n true owners o above) owners all)
