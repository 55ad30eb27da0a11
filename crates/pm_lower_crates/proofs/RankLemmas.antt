-- The ranks of wanted edges ascend.
use Rattle.std.proofs.Common.{◌≡◌, ℕ, ◌+◌, ◌<◌, ◌≤◌, Bool, true, false, List, [], ◌∷◌, ◌++◌, length, slice_get, Option, Some, None, refl, sym, subst, arith, if◌then◌else◌, ◌&&◌}
use Rattle.std.specs.List.{All, enumerate_from, flat_map}
use Rattle.std.specs.Option.{option_map, option_to_list}
use Rattle.std.proofs.lemmas.List.Elements.{All-nil, All-cons, All-head, All-tail, All-append, All-weaker}
use Rattle.base_text_paths.specs.Arena.{number_of}
use Rattle.base_text_paths.specs.declared.arena.Idx.{Idx}
use Rattle.pm_cargo_packages.specs.declared.package.PackageData.{PackageData}
use Rattle.pm_cargo_packages.specs.declared.package.PackageDependency.{PackageDependency}
use Rattle.pm_cargo_packages.specs.declared.target.TargetData.{TargetData}
use Rattle.pm_cargo_packages.specs.declared.target.TargetTag.{TargetTag}
use Rattle.pm_cargo.specs.Workspace.{Workspace}
use Rattle.pm_lower_crates.specs.Loader.{FileNumbers}
use Rattle.pm_lower_crates.specs.Ranks.{AreInOrder, IsBefore, less, then_less}
use Rattle.pm_lower_crates.specs.Rows.{Owner, Row, is_macro_row, library, live_target, live_targets, rows_from, owner, owners, owners_from}
use Rattle.pm_lower_crates.specs.WantedEdges.{Dep, Edge, Public, RankedEdge, by_place, first_edges, is_delayed, is_for, later_edges, library_edges, macro_edges, public_edges, with_rank, agree, to_library, to_macros, to_owner, to_package, to_public, uses_library, wanted_of_owners}

before_key : (prefix : List ℕ) (a b : ℕ) (xs ys : List ℕ) → a < b → IsBefore (prefix ++ a ∷ xs) (prefix ++ b ∷ ys)
before_key [] a b xs ys h = less h
before_key (p ∷ ps) a b xs ys h = then_less (before_key ps a b xs ys h)

-- a rank has a number behind a prefix
pub record HasKey (prefix : List ℕ) (n : ℕ) (rank : List ℕ) : Type 0 where
  pub rest : List ℕ
  pub is : rank ≡ prefix ++ n ∷ rest

-- or a number from one on
pub record HasLaterKey (prefix : List ℕ) (n : ℕ) (rank : List ℕ) : Type 0 where
  pub key : ℕ
  pub from : n ≤ key
  pub has : HasKey prefix key rank

-- or a number below one
pub record HasEarlierKey (prefix : List ℕ) (n : ℕ) (rank : List ℕ) : Type 0 where
  pub key : ℕ
  pub below : key < n
  pub has : HasKey prefix key rank

keyed_before : (prefix : List ℕ) (n m : ℕ) (x y : List ℕ) → n < m → HasKey prefix n x → HasLaterKey prefix m y → IsBefore x y
keyed_before prefix n m x y h a b =
    subst (λ z. IsBefore z y) (sym a.is) (subst (IsBefore (prefix ++ n ∷ a.rest)) (sym b.has.is) (before_key prefix n b.key a.rest b.has.rest (omega (arith, h, b.from))))

pub in_order_append : (xs ys : List RankedEdge) → AreInOrder xs → AreInOrder ys → All (λ x. All (λ y. IsBefore x.rank y.rank) ys) xs → AreInOrder (xs ++ ys)
in_order_append [] ys a b c = b
in_order_append (x ∷ xs) ys a b c =
    (All-append (λ y. IsBefore x.rank y.rank) xs ys a.0 (All-head (λ x. All (λ y. IsBefore x.rank y.rank) ys) x xs c), in_order_append xs ys a.1 b (All-tail (λ x. All (λ y. IsBefore x.rank y.rank) ys) x xs c))

-- what lies behind lower keys comes first
apart_by_key : (prefix : List ℕ) (n m : ℕ) (xs ys : List RankedEdge) → n < m → All (λ w. HasKey prefix n w.rank) xs → All (λ w. HasLaterKey prefix m w.rank) ys → All (λ x. All (λ y. IsBefore x.rank y.rank) ys) xs
apart_by_key prefix n m xs ys h a b =
    All-weaker (λ w. HasKey prefix n w.rank) (λ x. All (λ y. IsBefore x.rank y.rank) ys) (λ x key. All-weaker (λ w. HasLaterKey prefix m w.rank) (λ y. IsBefore x.rank y.rank) (λ y later. keyed_before prefix n m x.rank y.rank h key later) ys b) xs a

-- what lies behind keys below a number comes before what lies behind keys from it on
pub apart_below : (prefix : List ℕ) (m : ℕ) (xs ys : List RankedEdge) → All (λ w. HasEarlierKey prefix m w.rank) xs → All (λ w. HasLaterKey prefix m w.rank) ys → All (λ x. All (λ y. IsBefore x.rank y.rank) ys) xs
apart_below prefix m xs ys a b =
    All-weaker (λ w. HasEarlierKey prefix m w.rank) (λ x. All (λ y. IsBefore x.rank y.rank) ys)
    (λ x early. All-weaker (λ w. HasLaterKey prefix m w.rank) (λ y. IsBefore x.rank y.rank) (λ y late. keyed_before prefix early.key m x.rank y.rank early.below early.has late) ys b) xs a

pub later : (prefix : List ℕ) (m n : ℕ) (xs : List RankedEdge) → m ≤ n → All (λ w. HasKey prefix n w.rank) xs → All (λ w. HasLaterKey prefix m w.rank) xs
later prefix m n xs h all = All-weaker (λ w. HasKey prefix n w.rank) (λ w. HasLaterKey prefix m w.rank) (λ w key. record { key = n; from = h; has = key }) xs all

-- ---- keys of what is ranked

pub ranked_all : (P : List ℕ → Type 0) (rank : List ℕ) (es : List Edge) → P rank → All (λ w. P w.rank) (with_rank rank es)
ranked_all P rank [] h = All-nil (λ w. P w.rank)
ranked_all P rank (e ∷ es) h = All-cons (λ w. P w.rank) (record { rank = rank; edge = e }) (with_rank rank es) h (ranked_all P rank es h)

flat_all : {A : Type 0} (P : RankedEdge → Type 0) (f : A → List RankedEdge) → ((x : A) → All P (f x)) → (xs : List A) → All P (flat_map f xs)
flat_all P f each [] = All-nil P
flat_all P f each (x ∷ xs) = All-append P (f x) (flat_map f xs) (each x) (flat_all P f each xs)

pub all_by_place : {A : Type 0} (P : RankedEdge → Type 0) (f : ℕ → A → List RankedEdge) → ((n : ℕ) (x : A) → All P (f n x)) → (n : ℕ) (xs : List A) → All P (by_place f n xs)
all_by_place P f each n [] = All-nil P
all_by_place P f each n (x ∷ xs) = All-append P (f n x) (by_place f (n + 1) xs) (each n x) (all_by_place P f each (n + 1) xs)

module _ {A : Type 0} (prefix : List ℕ) (f : ℕ → A → List RankedEdge) (keys : (n : ℕ) (x : A) → All (λ w. HasKey prefix n w.rank) (f n x)) where
  pub earlier_keys : (m n : ℕ) (xs : List A) → n + length xs ≤ m → All (λ w. HasEarlierKey prefix m w.rank) (by_place f n xs)
  earlier_keys m n [] h = All-nil (λ w. HasEarlierKey prefix m w.rank)
  earlier_keys m n (x ∷ xs) h = All-append (λ w. HasEarlierKey prefix m w.rank) (f n x) (by_place f (n + 1) xs)
      (All-weaker (λ w. HasKey prefix n w.rank) (λ w. HasEarlierKey prefix m w.rank) (λ w key. record { key = n; below = omega (arith, h); has = key }) (f n x) (keys n x))
      (earlier_keys m (n + 1) xs (omega (arith, h)))

  pub later_keys : (m n : ℕ) (xs : List A) → m ≤ n → All (λ w. HasLaterKey prefix m w.rank) (by_place f n xs)
  later_keys m n [] h = All-nil (λ w. HasLaterKey prefix m w.rank)
  later_keys m n (x ∷ xs) h = All-append (λ w. HasLaterKey prefix m w.rank) (f n x) (by_place f (n + 1) xs)
      (later prefix m n (f n x) h (keys n x))
      (later_keys m (n + 1) xs (omega arith))

  pub by_place_order : (Q : A → Type 0) → ((n : ℕ) (x : A) → Q x → AreInOrder (f n x)) → (n : ℕ) (xs : List A) → All Q xs → AreInOrder (by_place f n xs)
  by_place_order Q each n [] all = tt
  by_place_order Q each n (x ∷ xs) all =
      in_order_append (f n x) (by_place f (n + 1) xs) (each n x (All-head Q x xs all)) (by_place_order Q each (n + 1) xs (All-tail Q x xs all))
      (apart_by_key prefix n (n + 1) (f n x) (by_place f (n + 1) xs) (omega arith) (keys n x) (later_keys (n + 1) (n + 1) xs (omega arith)))

-- ---- rows

-- the places of rows ascend
abbrev Ascend : List Row → Type 0
Ascend [] = Unit {0}
Ascend (r ∷ rs) = All (λ s. r.place < s.place) rs × Ascend rs

-- there is one edge at most
abbrev pub IsShort : List Edge → Type 0
IsShort [] = Unit {0}
IsShort (e ∷ []) = Unit {0}
IsShort (e ∷ f ∷ es) = ⊥

short_if : (b : Bool) (e : Edge) → IsShort (if b then e ∷ [] else [])
short_if true e = tt
short_if false e = tt

pub short_order : (rank : List ℕ) (es : List Edge) → IsShort es → AreInOrder (with_rank rank es)
short_order rank [] short = tt
short_order rank (e ∷ []) short = (All-nil (λ y. IsBefore rank y.rank), tt)
short_order rank (e ∷ f ∷ es) short = absurd short

module _ (prefix : List ℕ) (f : Row → List RankedEdge) (keys : (r : Row) → All (λ w. HasKey prefix r.place w.rank) (f r)) (each : (r : Row) → AreInOrder (f r)) where
  later_of_rows : (m : ℕ) (rows : List Row) → All (λ s. m ≤ s.place) rows → All (λ w. HasLaterKey prefix m w.rank) (flat_map f rows)
  later_of_rows m [] all = All-nil (λ w. HasLaterKey prefix m w.rank)
  later_of_rows m (r ∷ rs) all = All-append (λ w. HasLaterKey prefix m w.rank) (f r) (flat_map f rs)
      (later prefix m r.place (f r) (All-head (λ (s : Row). m ≤ s.place) r rs all) (keys r))
      (later_of_rows m rs (All-tail (λ (s : Row). m ≤ s.place) r rs all))

  rows_in_order : (rows : List Row) → Ascend rows → AreInOrder (flat_map f rows)
  rows_in_order [] up = tt
  rows_in_order (r ∷ rs) up =
      in_order_append (f r) (flat_map f rs) (each r) (rows_in_order rs up.1)
      (apart_by_key prefix r.place (r.place + 1) (f r) (flat_map f rs) (omega arith) (keys r)
      (later_of_rows (r.place + 1) rs (All-weaker (λ (s : Row). r.place < s.place) (λ (s : Row). r.place + 1 ≤ s.place) (λ s h. omega (arith, h)) rs up.0)))

rows_order : (prefix tail : List ℕ) (f : Row → List Edge) → ((r : Row) → IsShort (f r)) → (rows : List Row) → Ascend rows → AreInOrder (flat_map (λ (row : Row). with_rank (prefix ++ row.place ∷ tail) (f row)) rows)
rows_order prefix tail f short rows up =
    rows_in_order prefix (λ (row : Row). with_rank (prefix ++ row.place ∷ tail) (f row))
    (λ r. ranked_all (HasKey prefix r.place) (prefix ++ r.place ∷ tail) (f r) (record { rest = tail; is = refl }))
    (λ r. short_order (prefix ++ r.place ∷ tail) (f r) (short r)) rows up

-- ---- the steps

short_library : (l : Option Row) (r : Row) → IsShort (to_library l r)
short_library None r = tt
short_library (Some lib) r = short_if (uses_library lib r) _

short_package : (delayed : Bool) (from : Owner) (d : PackageDependency) (to : Owner) (l : Option Row) (r : Row) → IsShort (to_package delayed from d to l r)
short_package delayed from d to None r = tt
short_package delayed from d to (Some lib) r = short_if (is_for d r && agree delayed (is_delayed from d to r)) _

short_owner : (delayed : Bool) (from : Owner) (d : PackageDependency) (to : Option Owner) (r : Row) → IsShort (to_owner delayed from d to r)
short_owner delayed from d None r = tt
short_owner delayed from d (Some to) r = short_package delayed from d to (library to.rows) r

short_macros : (macros : Option ℕ) (source : ℕ) (b : Bool) → IsShort (to_macros macros source b)
short_macros None source b = tt
short_macros (Some target) source b = tt

module _ (q : ℕ) (public : Public) (p : ℕ) (o : Owner) where
  -- the edges of a row that come in its turn
  abbrev turn : Row → List RankedEdge
  turn row = public_edges q public p row ++ library_edges q public p (library o.rows) row

  public_all : (P : List ℕ → Type 0) (row : Row) → ((i : ℕ) → P (q ∷ 1 ∷ p ∷ 1 ∷ row.place ∷ i ∷ [])) → All (λ w. P w.rank) (public_edges q public p row)
  public_all P row each =
      all_by_place (λ w. P w.rank) (λ i (dep : Dep). with_rank (q ∷ 1 ∷ p ∷ 1 ∷ row.place ∷ i ∷ []) (to_public row.number dep ∷ []))
      (λ i dep. ranked_all P (q ∷ 1 ∷ p ∷ 1 ∷ row.place ∷ i ∷ []) (to_public row.number dep ∷ []) (each i)) 0 public.rows

  turn_all : (P : List ℕ → Type 0) (row : Row) → ((i : ℕ) → P (q ∷ 1 ∷ p ∷ 1 ∷ row.place ∷ i ∷ [])) → All (λ w. P w.rank) (turn row)
  turn_all P row each =
      All-append (λ w. P w.rank) (public_edges q public p row) (library_edges q public p (library o.rows) row) (public_all P row each)
      (ranked_all P (q ∷ 1 ∷ p ∷ 1 ∷ row.place ∷ length public.rows ∷ []) (to_library (library o.rows) row) (each (length public.rows)))

  first_all : (P : List ℕ → Type 0) → ((t : ℕ) → P (q ∷ 1 ∷ p ∷ 0 ∷ t ∷ [])) → ((t i : ℕ) → P (q ∷ 1 ∷ p ∷ 1 ∷ t ∷ i ∷ [])) → All (λ w. P w.rank) (first_edges q public p o)
  unfolding first_edges
  first_all P of_macros of_turns =
      All-append (λ w. P w.rank) (flat_map (macro_edges q public p) o.rows) (flat_map turn o.rows)
      (flat_all (λ w. P w.rank) (macro_edges q public p)
      (λ row. ranked_all P (q ∷ 1 ∷ p ∷ 0 ∷ row.place ∷ []) (to_macros public.macros row.number (is_macro_row row.target.kind)) (of_macros row.place)) o.rows)
      (flat_all (λ w. P w.rank) turn (λ row. turn_all P row (of_turns row.place)) o.rows)

  turn_order : (row : Row) → AreInOrder (turn row)
  turn_order row =
      let prefix = q ∷ 1 ∷ p ∷ 1 ∷ row.place ∷ [] in
      let last = length public.rows in
      let at : ℕ → Dep → List RankedEdge = λ i dep. with_rank (q ∷ 1 ∷ p ∷ 1 ∷ row.place ∷ i ∷ []) (to_public row.number dep ∷ []) in
      let keys : (i : ℕ) (dep : Dep) → All (λ w. HasKey prefix i w.rank) (at i dep) =
      λ i dep. ranked_all (HasKey prefix i) (q ∷ 1 ∷ p ∷ 1 ∷ row.place ∷ i ∷ []) (to_public row.number dep ∷ []) (record { rest = []; is = refl }) in
      let lib = to_library (library o.rows) row in
      in_order_append (public_edges q public p row) (library_edges q public p (library o.rows) row)
      (by_place_order prefix at keys (λ dep. Unit {0}) (λ i dep u. short_order (q ∷ 1 ∷ p ∷ 1 ∷ row.place ∷ i ∷ []) (to_public row.number dep ∷ []) tt) 0 public.rows (λ k d within. tt))
      (short_order (q ∷ 1 ∷ p ∷ 1 ∷ row.place ∷ last ∷ []) lib (short_library (library o.rows) row))
      (apart_below prefix last (public_edges q public p row) (library_edges q public p (library o.rows) row)
      (earlier_keys prefix at keys last 0 public.rows (omega arith))
      (later prefix last last (library_edges q public p (library o.rows) row) (omega arith)
      (ranked_all (HasKey prefix last) (q ∷ 1 ∷ p ∷ 1 ∷ row.place ∷ last ∷ []) lib (record { rest = []; is = refl }))))

  first_order : Ascend o.rows → AreInOrder (first_edges q public p o)
  unfolding first_edges
  first_order up =
      let macros = flat_map (macro_edges q public p) o.rows in
      let turns = flat_map turn o.rows in
      in_order_append macros turns
      (rows_order (q ∷ 1 ∷ p ∷ 0 ∷ []) [] (λ (row : Row). to_macros public.macros row.number (is_macro_row row.target.kind)) (λ row. short_macros public.macros row.number (is_macro_row row.target.kind)) o.rows up)
      (rows_in_order (q ∷ 1 ∷ p ∷ 1 ∷ []) turn (λ row. turn_all (HasKey (q ∷ 1 ∷ p ∷ 1 ∷ []) row.place) row (λ i. record { rest = i ∷ []; is = refl })) turn_order o.rows up)
      (apart_by_key (q ∷ 1 ∷ p ∷ []) 0 1 macros turns (omega arith)
      (flat_all (λ w. HasKey (q ∷ 1 ∷ p ∷ []) 0 w.rank) (macro_edges q public p)
      (λ row. ranked_all (HasKey (q ∷ 1 ∷ p ∷ []) 0) (q ∷ 1 ∷ p ∷ 0 ∷ row.place ∷ []) (to_macros public.macros row.number (is_macro_row row.target.kind)) (record { rest = row.place ∷ []; is = refl })) o.rows)
      (later (q ∷ 1 ∷ p ∷ []) 1 1 turns (omega arith)
      (flat_all (λ w. HasKey (q ∷ 1 ∷ p ∷ []) 1 w.rank) turn (λ row. turn_all (HasKey (q ∷ 1 ∷ p ∷ []) 1) row (λ i. record { rest = row.place ∷ i ∷ []; is = refl })) o.rows)))

first_keys : (q : ℕ) (public : Public) (p : ℕ) (o : Owner) → All (λ w. HasKey (q ∷ 1 ∷ []) p w.rank) (first_edges q public p o)
first_keys q public p o =
    first_all q public p o (HasKey (q ∷ 1 ∷ []) p) (λ t. record { rest = 0 ∷ t ∷ []; is = refl }) (λ t i. record { rest = 1 ∷ t ∷ i ∷ []; is = refl })

first_step_keys : (q : ℕ) (public : Public) (p : ℕ) (o : Owner) → All (λ w. HasKey (q ∷ []) 1 w.rank) (first_edges q public p o)
first_step_keys q public p o =
    first_all q public p o (HasKey (q ∷ []) 1) (λ t. record { rest = p ∷ 0 ∷ t ∷ []; is = refl }) (λ t i. record { rest = p ∷ 1 ∷ t ∷ i ∷ []; is = refl })

module _ (q step : ℕ) (delayed : Bool) (owners : List Owner) where
  to_dependency_ranked : ℕ → Owner → ℕ → PackageDependency → List RankedEdge
  to_dependency_ranked p o d dep = flat_map (λ (row : Row). with_rank (q ∷ step ∷ p ∷ d ∷ row.place ∷ []) (to_owner delayed o dep (slice_get owners (number_of dep.pkg)) row)) o.rows

  dependency_all : (P : List ℕ → Type 0) (p : ℕ) (o : Owner) (d : ℕ) (dep : PackageDependency) → ((t : ℕ) → P (q ∷ step ∷ p ∷ d ∷ t ∷ [])) → All (λ w. P w.rank) (to_dependency_ranked p o d dep)
  unfolding to_dependency_ranked
  dependency_all P p o d dep each =
      flat_all (λ w. P w.rank) (λ (row : Row). with_rank (q ∷ step ∷ p ∷ d ∷ row.place ∷ []) (to_owner delayed o dep (slice_get owners (number_of dep.pkg)) row))
      (λ row. ranked_all P (q ∷ step ∷ p ∷ d ∷ row.place ∷ []) (to_owner delayed o dep (slice_get owners (number_of dep.pkg)) row) (each row.place)) o.rows

  edges_all : (P : List ℕ → Type 0) (p : ℕ) (o : Owner) → ((d t : ℕ) → P (q ∷ step ∷ p ∷ d ∷ t ∷ [])) → All (λ w. P w.rank) (later_edges q step delayed owners p o)
  unfolding later_edges to_dependency_ranked
  edges_all P p o each = all_by_place (λ w. P w.rank) (to_dependency_ranked p o) (λ d dep. dependency_all P p o d dep (each d)) 0 o.of.dependencies

  later_package_keys : (p : ℕ) (o : Owner) → All (λ w. HasKey (q ∷ step ∷ []) p w.rank) (later_edges q step delayed owners p o)
  later_package_keys p o = edges_all (HasKey (q ∷ step ∷ []) p) p o (λ d t. record { rest = d ∷ t ∷ []; is = refl })

  later_step_keys : (p : ℕ) (o : Owner) → All (λ w. HasKey (q ∷ []) step w.rank) (later_edges q step delayed owners p o)
  later_step_keys p o = edges_all (HasKey (q ∷ []) step) p o (λ d t. record { rest = p ∷ d ∷ t ∷ []; is = refl })

  dependency_order : (p : ℕ) (o : Owner) → Ascend o.rows → (d : ℕ) (dep : PackageDependency) → AreInOrder (to_dependency_ranked p o d dep)
  unfolding to_dependency_ranked
  dependency_order p o up d dep =
      rows_order (q ∷ step ∷ p ∷ d ∷ []) [] (to_owner delayed o dep (slice_get owners (number_of dep.pkg))) (short_owner delayed o dep (slice_get owners (number_of dep.pkg))) o.rows up

  later_order : (p : ℕ) (o : Owner) → Ascend o.rows → AreInOrder (later_edges q step delayed owners p o)
  unfolding later_edges to_dependency_ranked
  later_order p o up =
      by_place_order (q ∷ step ∷ p ∷ []) (to_dependency_ranked p o) (λ d dep. dependency_all (HasKey (q ∷ step ∷ p ∷ []) d) p o d dep (λ t. record { rest = t ∷ []; is = refl }))
      (λ dep. Unit {0}) (λ d dep u. dependency_order p o up d dep) 0 o.of.dependencies (λ k d within. tt)

part_order : (q : ℕ) (public : Public) (os : List Owner) → All (λ o. Ascend o.rows) os → AreInOrder (wanted_of_owners q public os)
part_order q public os all =
    let one = by_place (first_edges q public) 0 os in
    let two = by_place (later_edges q 2 false os) 0 os in
    let three = by_place (later_edges q 3 true os) 0 os in
    let ones = all_by_place (λ r. HasKey (q ∷ []) 1 r.rank) (first_edges q public) (first_step_keys q public) 0 os in
    let twos = all_by_place (λ r. HasKey (q ∷ []) 2 r.rank) (later_edges q 2 false os) (later_step_keys q 2 false os) 0 os in
    let threes = all_by_place (λ r. HasKey (q ∷ []) 3 r.rank) (later_edges q 3 true os) (later_step_keys q 3 true os) 0 os in
    in_order_append (one ++ two) three
    (in_order_append one two
    (by_place_order (q ∷ 1 ∷ []) (first_edges q public) (first_keys q public) (λ o. Ascend o.rows) (first_order q public) 0 os all)
    (by_place_order (q ∷ 2 ∷ []) (later_edges q 2 false os) (later_package_keys q 2 false os) (λ o. Ascend o.rows) (later_order q 2 false os) 0 os all)
    (apart_by_key (q ∷ []) 1 2 one two (omega arith) ones (later (q ∷ []) 2 2 two (omega arith) twos)))
    (by_place_order (q ∷ 3 ∷ []) (later_edges q 3 true os) (later_package_keys q 3 true os) (λ o. Ascend o.rows) (later_order q 3 true os) 0 os all)
    (All-append (λ x. All (λ y. IsBefore x.rank y.rank) three) one two
    (apart_by_key (q ∷ []) 1 3 one three (omega arith) ones (later (q ∷ []) 3 3 three (omega arith) threes))
    (apart_by_key (q ∷ []) 2 3 two three (omega arith) twos (later (q ∷ []) 3 3 three (omega arith) threes)))

-- ---- the places of a package's rows

module _ (files : FileNumbers) (w : Workspace) (of : PackageData) where
  live_above : (m k : ℕ) (ids : List (Idx TargetTag)) → m ≤ k → All (λ t. m ≤ t.0) (live_targets files w of (enumerate_from k ids))
  unfolding live_targets
  live_above m k [] h = All-nil (λ t. m ≤ t.0)
  live_above m k (id ∷ ids) h =
      let rest = live_above m (k + 1) ids (omega (arith, h)) in
      let others = live_targets files w of (enumerate_from (k + 1) ids) in
      elim (live_target files w of id) as (λ o. All (λ t. m ≤ t.0) (option_to_list (option_map (λ (t : TargetData × ℕ). (k, t.0, t.1)) o) ++ others)) [
        | Some t ↦ All-cons (λ t. m ≤ t.0) (k, t.0, t.1) others h rest
        | None ↦ rest
      ]

  -- the places of targets ascend
  abbrev TargetsAscend : List (ℕ × TargetData × ℕ) → Type 0
  TargetsAscend [] = Unit {0}
  TargetsAscend (t ∷ ts) = All (λ s. t.0 < s.0) ts × TargetsAscend ts

  live_ascend : (k : ℕ) (ids : List (Idx TargetTag)) → TargetsAscend (live_targets files w of (enumerate_from k ids))
  unfolding live_targets
  live_ascend k [] = tt
  live_ascend k (id ∷ ids) =
      let rest = live_ascend (k + 1) ids in
      let others = live_targets files w of (enumerate_from (k + 1) ids) in
      elim (live_target files w of id) as (λ o. TargetsAscend (option_to_list (option_map (λ (t : TargetData × ℕ). (k, t.0, t.1)) o) ++ others)) [
        | Some t ↦ (All-weaker (λ s. k + 1 ≤ s.0) (λ s. k < s.0) (λ s h. omega (arith, h)) others (live_above (k + 1) (k + 1) ids (omega arith)), rest)
        | None ↦ rest
      ]

  numbered_above : (p m n : ℕ) (ts : List (ℕ × TargetData × ℕ)) → All (λ t. m < t.0) ts → All (λ (r : Row). m < r.place) (rows_from p of n ts)
  numbered_above p m n [] all = All-nil (λ (r : Row). m < r.place)
  numbered_above p m n (t ∷ ts) all = All-cons (λ (r : Row). m < r.place) _ (rows_from p of (n + 1) ts) (All-head (λ t. m < t.0) t ts all) (numbered_above p m (n + 1) ts (All-tail (λ t. m < t.0) t ts all))

  numbered_ascend : (p n : ℕ) (ts : List (ℕ × TargetData × ℕ)) → TargetsAscend ts → Ascend (rows_from p of n ts)
  numbered_ascend p n [] up = tt
  numbered_ascend p n (t ∷ ts) up = (numbered_above p t.0 (n + 1) ts up.0, numbered_ascend p (n + 1) ts up.1)

  owner_ascends : (p n : ℕ) → Ascend (owner files w p n of).rows
  unfolding owner
  owner_ascends p n = numbered_ascend p n (live_targets files w of (enumerate_from 0 of.targets)) (live_ascend 0 of.targets)

owners_ascend : (files : FileNumbers) (w : Workspace) (p n : ℕ) (all : List PackageData) → All (λ o. Ascend o.rows) (owners_from files w p n all)
owners_ascend files w p n [] = All-nil (λ o. Ascend o.rows)
owners_ascend files w p n (of ∷ more) =
    All-cons (λ o. Ascend o.rows) (owner files w p n of) _ (owner_ascends files w of p n) (owners_ascend files w (p + 1) (n + length (owner files w p n of).rows) more)

-- the ranks of what a workspace's rows want ascend
pub ranks_ascend : (q : ℕ) (public : Public) (files : FileNumbers) (w : Workspace) (n : ℕ) → AreInOrder (wanted_of_owners q public (owners files w n))
ranks_ascend q public files w n = part_order q public (owners files w n) (owners_ascend files w 0 n w.packages)
