-- How rows are gathered, by package and by target, while their crates come into a graph.
use Rattle.std.proofs.Common.{◌≡◌, ℕ, ◌+◌, ◌<◌, ◌≤◌, Bool, true, false, cond, List, [], ◌∷◌, ◌++◌, map, length, filter, get_or, take, drop, Option, Some, None, slice_get, refl, sym, ap, ◌∙◌, subst, arith, append_assoc}
use Rattle.std.specs.List.{enumerate_from, last_or}
use Rattle.std.specs.Option.{option_and_then, option_map, option_to_list}
use Rattle.std.proofs.lemmas.List.{length-map, length-append, map-append, append-nil, drop_more, take_more}
use Rattle.std.proofs.lemmas.Option.{same_Some}
use Rattle.std.proofs.lemmas.List.Concat.{flat_map-append}
use Rattle.std.proofs.lemmas.List.Elements.{filter-append}
use Rattle.base_text_outside.specs.declared.limits.Limit.TheVariants.{Bytes, Paths, Packages, Targets, Crates}
use Rattle.base_text_paths.specs.Arena.{number_of}
use Rattle.base_text_paths.specs.declared.arena.Idx.{Idx}
use Rattle.crate_graph.specs.Graph.{Graph}
use Rattle.pm_cargo_packages.specs.declared.package.PackageData.{PackageData}
use Rattle.pm_cargo_packages.specs.declared.target.TargetData.{TargetData}
use Rattle.pm_cargo_packages.specs.declared.target.TargetTag.{TargetTag}
use Rattle.pm_cargo.specs.Workspace.{Workspace}
use Rattle.pm_lower_crates.specs.Loader.{FileNumbers}
use Rattle.pm_lower_crates.specs.Facts.{Facts}
use Rattle.pm_lower_crates.specs.Gathering.{AddsRows, files_of, found_target, found_targets, owner_by, owners_by}
use Rattle.pm_lower_crates.specs.Lowering.{crate_seen, row_crate}
use Rattle.pm_lower_crates.specs.Refusal.{IfTooMany}
use Rattle.pm_lower_crates.specs.Rows.{Owner, Row, is_lib, library, live_target, live_targets, rows_from, owner, owners_from, root_file, row_at, rows_of}
use Rattle.pm_lower_crates.specs.declared.lower_error.LowerError.{LowerError}
use Rattle.pm_lower_crates.specs.declared.lower_error.LowerError.TheVariants.{BadCrateName, TooMany, OutOfMemory}

last_push : {A : Type 0} (o : Option A) (xs : List A) (x : A) → last_or o (xs ++ x ∷ []) ≡ Some x
last_push o [] x = refl
last_push o (y ∷ ys) x = last_push (Some y) ys x

library_push : (rows : List Row) (r : Row) (b : Bool) → is_lib r.target.kind ≡ b → library (rows ++ r ∷ []) ≡ cond b (Some r) (library rows)
library_push rows r true is = ap (last_or None) (filter-append (λ (x : Row). is_lib x.target.kind) rows (r ∷ []) ∙ ap (λ b. filter (λ (x : Row). is_lib x.target.kind) rows ++ cond b (r ∷ []) []) is) ∙ last_push None (filter (λ (x : Row). is_lib x.target.kind) rows) r
library_push rows r false is = ap (last_or None) (filter-append (λ (x : Row). is_lib x.target.kind) rows (r ∷ []) ∙ ap (λ b. filter (λ (x : Row). is_lib x.target.kind) rows ++ cond b (r ∷ []) []) is ∙ append-nil (filter (λ (x : Row). is_lib x.target.kind) rows))

-- one more item is mapped
pub map_more : {A B : Type 0} (f : A → B) (xs : List A) (i : ℕ) (x : A) → i < length xs → x ≡ get_or xs i x → map f (take i xs) ++ f x ∷ [] ≡ map f (take (i + 1) xs)
map_more f xs i x within is =
    ap (λ y. map f (take i xs) ++ f y ∷ []) is ∙ sym (map-append f (take i xs) (get_or xs i x ∷ [])) ∙ ap (map f) (sym (take_more xs i x within))

-- the next item of what is left
pub drop_next : {A : Type 0} (xs : List A) (i : ℕ) (x : A) → i < length xs → x ≡ get_or xs i x → drop i xs ≡ x ∷ drop (i + 1) xs
drop_next xs i x within is = drop_more xs i x within ∙ ap (λ y. y ∷ drop (i + 1) xs) (sym is)

-- what an answer says of the option that it was made of
pub some_found : {A B : Type 0} (f : A → B) (o : Option A) (b : B) → Some b ≡ option_map f o → (a : A) × (o ≡ Some a) × (b ≡ f a)
some_found f None b is = cc
some_found f (Some a) b is = (a, refl, same_Some b (f a) is)

pub none_found : {A B : Type 0} (f : A → B) (o : Option A) → None ≡ option_map f o → o ≡ None
none_found f None is = refl
none_found f (Some a) is = cc

-- ---- the crates of rows in a graph

module _ (facts : Facts) (w : Workspace) where
  pub adds_none : (old : Graph) → AddsRows facts w old old []
  adds_none old = record { limit = refl; within = λ h. h; crates = sym (append-nil (map crate_seen old.crates)) }

  pub adds_more : (old mid new : Graph) (xs ys : List Row) → AddsRows facts w old mid xs → AddsRows facts w mid new ys → AddsRows facts w old new (xs ++ ys)
  adds_more old mid new xs ys a b = record {
    limit = b.limit ∙ a.limit;
    within = λ h. subst (λ n. length new.crates ≤ n) a.limit (b.within (subst (λ n. length mid.crates ≤ n) (sym a.limit) (a.within h)));
    crates = b.crates ∙ ap (λ cs. cs ++ map (row_crate facts w) ys) a.crates ∙ append_assoc (map crate_seen old.crates) (map (row_crate facts w) xs) (map (row_crate facts w) ys)
        ∙ ap (λ cs. map crate_seen old.crates ++ cs) (sym (map-append (row_crate facts w) xs ys));
  }

  pub count_added : (old new : Graph) (rows : List Row) → AddsRows facts w old new rows → length new.crates ≡ length old.crates + length rows
  count_added old new rows a =
      sym (length-map new.crates crate_seen) ∙ ap length a.crates ∙ length-append (map crate_seen old.crates) (map (row_crate facts w) rows)
      ∙ ap (λ n. n + length (map (row_crate facts w) rows)) (length-map old.crates crate_seen) ∙ ap (λ n. length old.crates + n) (length-map rows (row_crate facts w))

-- ---- the rows of a package

module _ (facts : Facts) (w : Workspace) (p : ℕ) (of : PackageData) (all : List (Option ℕ)) where
  -- the rows of a package as far as its targets are looked at: those at a place and behind it are left
  pub record Gathers (left : ℕ × List (Option ℕ)) (old new : Graph) (rows : List Row) (lib : Option Row) : Type 0 where
    pub rows_are : rows ++ rows_from p of (length new.crates) (found_targets w of left.0 left.1) ≡ (owner_by w p (length old.crates) of all).rows
    pub adds : AddsRows facts w old new rows
    pub lib_is : lib ≡ library rows

  pub gathers_none : (old : Graph) → Gathers (0, all) old old [] None
  gathers_none old = record { rows_are = refl; adds = adds_none facts w old; lib_is = refl }

  targets_more : (place : ℕ) (file : Option ℕ) (rest : List (Option ℕ)) (o : Option (TargetData × ℕ)) → found_target w (slice_get of.targets place) file ≡ o
      → found_targets w of place (file ∷ rest) ≡ option_to_list (option_map (λ (t : TargetData × ℕ). (place, t.0, t.1)) o) ++ found_targets w of (place + 1) rest
  targets_more place file rest o is = ap (λ x. option_to_list (option_map (λ (t : TargetData × ℕ). (place, t.0, t.1)) x) ++ found_targets w of (place + 1) rest) is

  pub gathers_past : (place : ℕ) (file : Option ℕ) (rest : List (Option ℕ)) (old new : Graph) (rows : List Row) (lib : Option Row) → found_target w (slice_get of.targets place) file ≡ None
      → Gathers (place, file ∷ rest) old new rows lib → Gathers (place + 1, rest) old new rows lib
  gathers_past place file rest old new rows lib not_live g = record {
    rows_are = ap (λ ts. rows ++ rows_from p of (length new.crates) ts) (sym (targets_more place file rest None not_live)) ∙ g.rows_are;
    adds = g.adds;
    lib_is = g.lib_is;
  }

  -- a target that becomes a row comes after the others
  pub gathers_row : (place : ℕ) (file : Option ℕ) (rest : List (Option ℕ)) (old mid new : Graph) (rows more : List Row) (lib lib' : Option Row) (b : Bool) (t : TargetData × ℕ) (r : Row)
      → found_target w (slice_get of.targets place) file ≡ Some t → is_lib r.target.kind ≡ b → r ≡ row_at p of (place, t.0, t.1) (length mid.crates)
      → AddsRows facts w mid new (r ∷ []) → more ≡ rows ++ r ∷ [] → lib' ≡ cond b (Some r) lib
      → Gathers (place, file ∷ rest) old mid rows lib → Gathers (place + 1, rest) old new more lib'
  gathers_row place file rest old mid new rows more lib lib' b t r live its row adds more_is lib_is g =
      let others = found_targets w of (place + 1) rest in
      let count : length new.crates ≡ length mid.crates + 1 = count_added facts w mid new (r ∷ []) adds in
      record {
        rows_are = ap (λ rs. rs ++ rows_from p of (length new.crates) others) more_is ∙ append_assoc rows (r ∷ []) (rows_from p of (length new.crates) others)
            ∙ ap (λ n. rows ++ r ∷ rows_from p of n others) count ∙ ap (λ x. rows ++ x ∷ rows_from p of (length mid.crates + 1) others) row
            ∙ ap (λ ts. rows ++ rows_from p of (length mid.crates) ts) (sym (targets_more place file rest (Some t) live)) ∙ g.rows_are;
        adds = subst (AddsRows facts w old new) (sym more_is) (adds_more facts w old mid new rows (r ∷ []) g.adds adds);
        lib_is = lib_is ∙ ap (cond b (Some r)) g.lib_is ∙ sym (library_push rows r b its) ∙ ap library (sym more_is);
      }

  pub gathers_full : (place : ℕ) (file : Option ℕ) (rest : List (Option ℕ)) (old new : Graph) (rows : List Row) (lib : Option Row) (t : TargetData × ℕ) → found_target w (slice_get of.targets place) file ≡ Some t
      → length new.crates ≡ new.limit → Gathers (place, file ∷ rest) old new rows lib → old.limit < length old.crates + length (owner_by w p (length old.crates) of all).rows
  gathers_full place file rest old new rows lib t live full g =
      let others = found_targets w of (place + 1) rest in
      let r : Row = row_at p of (place, t.0, t.1) (length new.crates) in
      let same = ap (λ ts. rows ++ rows_from p of (length new.crates) ts) (sym (targets_more place file rest (Some t) live)) ∙ g.rows_are in
      let long = sym (ap length same) ∙ length-append rows (r ∷ rows_from p of (length new.crates + 1) others) in
      omega (arith, long, count_added facts w old new rows g.adds, g.adds.limit)

  pub gathers_all : (place : ℕ) (old new : Graph) (rows : List Row) (lib : Option Row) → Gathers (place, []) old new rows lib → record { of = of; rows = rows } ≡ owner_by w p (length old.crates) of all
  gathers_all place old new rows lib g = ap (λ rs. record { of = of; rows = rs }) (sym (append-nil rows) ∙ g.rows_are)

-- ---- the rows of all packages

module _ (facts : Facts) (w : Workspace) (all : List PackageData) (files : List (List (Option ℕ))) where
  -- the packages of a workspace as far as they are looked at
  pub record GathersAll (k : ℕ) (rest : List PackageData) (rest_files : List (List (Option ℕ))) (old new : Graph) (made : List Owner) : Type 0 where
    pub made_are : made ++ owners_by w k (length new.crates) rest rest_files ≡ owners_by w 0 (length old.crates) all files
    pub adds : AddsRows facts w old new (rows_of made)

  pub gathers_no_package : (old : Graph) → GathersAll 0 all files old old []
  gathers_no_package old = record { made_are = refl; adds = adds_none facts w old }

  pub gathers_package : (k : ℕ) (rest : List PackageData) (rest_files : List (List (Option ℕ))) (old mid new : Graph) (made more : List Owner) (of : PackageData) (its : List (Option ℕ)) (o : Owner)
      → o ≡ owner_by w k (length mid.crates) of its → AddsRows facts w mid new o.rows → more ≡ made ++ o ∷ []
      → GathersAll k (of ∷ rest) (its ∷ rest_files) old mid made → GathersAll (k + 1) rest rest_files old new more
  gathers_package k rest rest_files old mid new made more of its o o_is adds more_is g =
      let count : length new.crates ≡ length mid.crates + length (owner_by w k (length mid.crates) of its).rows = count_added facts w mid new o.rows adds ∙ ap (λ x. length mid.crates + length x.rows) o_is in
      record {
        made_are = ap (λ os. os ++ owners_by w (k + 1) (length new.crates) rest rest_files) more_is ∙ append_assoc made (o ∷ []) (owners_by w (k + 1) (length new.crates) rest rest_files)
            ∙ ap (λ n. made ++ o ∷ owners_by w (k + 1) n rest rest_files) count
            ∙ ap (λ x. made ++ x ∷ owners_by w (k + 1) (length mid.crates + length (owner_by w k (length mid.crates) of its).rows) rest rest_files) o_is
            ∙ g.made_are;
        adds = subst (AddsRows facts w old new) (ap (λ rs. rows_of made ++ rs) (sym (append-nil o.rows)) ∙ sym (flat_map-append (λ (x : Owner). x.rows) made (o ∷ [])) ∙ ap rows_of (sym more_is))
            (adds_more facts w old mid new (rows_of made) o.rows g.adds adds);
      }

  pub gathers_full_package : (k : ℕ) (rest : List PackageData) (rest_files : List (List (Option ℕ))) (old new : Graph) (made : List Owner) (of : PackageData) (its : List (Option ℕ))
      → new.limit < length new.crates + length (owner_by w k (length new.crates) of its).rows
      → GathersAll k (of ∷ rest) (its ∷ rest_files) old new made → old.limit < length old.crates + length (rows_of (owners_by w 0 (length old.crates) all files))
  gathers_full_package k rest rest_files old new made of its full g =
      let o = owner_by w k (length new.crates) of its in
      let more = owners_by w (k + 1) (length new.crates + length o.rows) rest rest_files in
      let long : length (rows_of (owners_by w 0 (length old.crates) all files)) ≡ length (rows_of made) + (length o.rows + length (rows_of more)) =
      sym (ap (λ os. length (rows_of os)) g.made_are) ∙ ap length (flat_map-append (λ (x : Owner). x.rows) made (o ∷ more))
      ∙ length-append (rows_of made) (o.rows ++ rows_of more) ∙ ap (λ n. length (rows_of made) + n) (length-append o.rows (rows_of more)) in
      omega (arith, long, full, count_added facts w old new (rows_of made) g.adds, g.adds.limit)

  pub gathers_all_packages : (k : ℕ) (rest_files : List (List (Option ℕ))) (old new : Graph) (made : List Owner) → GathersAll k [] rest_files old new made → made ≡ owners_by w 0 (length old.crates) all files
  gathers_all_packages k rest_files old new made g = sym (append-nil made) ∙ g.made_are

pub limit_weaker : (e : LowerError) (P Q : Type 0) → (P → Q) → IfTooMany e P → IfTooMany e Q
limit_weaker (BadCrateName name) P Q so h = h
limit_weaker (TooMany Crates) P Q so h = so h
limit_weaker (TooMany Bytes) P Q so h = h
limit_weaker (TooMany Paths) P Q so h = h
limit_weaker (TooMany Packages) P Q so h = h
limit_weaker (TooMany Targets) P Q so h = h
limit_weaker OutOfMemory P Q so h = tt

-- ---- rows by files are rows by what is live

abbrev paired : ℕ → TargetData → TargetData × ℕ
paired f t = (t, f)

-- a target with a file, by what is live and again by the file that this gives
found_again : (s : Option TargetData) (r : TargetData → Option ℕ)
    → option_and_then (λ f. option_map (paired f) s) (option_map (λ (t : TargetData × ℕ). t.1) (option_and_then (λ t. option_map (λ f. paired f t) (r t)) s))
    ≡ option_and_then (λ t. option_map (λ f. paired f t) (r t)) s
found_again None r = refl
found_again (Some t) r = one (r t)
  where
    one : (o : Option ℕ) → option_and_then (λ f. Some (paired f t)) (option_map (λ (p : TargetData × ℕ). p.1) (option_map (λ f. paired f t) o)) ≡ option_map (λ f. paired f t) o
    one None = refl
    one (Some f) = refl

slice_get-behind : {A : Type 0} (xs : List A) (x : A) (rest : List A) → slice_get (xs ++ x ∷ rest) (length xs) ≡ Some x
slice_get-behind [] x rest = refl
slice_get-behind (y ∷ ys) x rest = slice_get-behind ys x rest

module _ (files : FileNumbers) (w : Workspace) where
  found_is_live : (of : PackageData) (id : Idx TargetTag) → found_target w (Some id) (option_map (λ t. t.1) (live_target files w of id)) ≡ live_target files w of id
  unfolding found_target live_target
  found_is_live of id = found_again (slice_get w.targets (number_of id)) (root_file files w of)

  found_are_live : (of : PackageData) (before ids : List (Idx TargetTag)) → before ++ ids ≡ of.targets
      → found_targets w of (length before) (map (λ id. option_map (λ t. t.1) (live_target files w of id)) ids) ≡ live_targets files w of (enumerate_from (length before) ids)
  unfolding live_targets
  found_are_live of before [] all = refl
  found_are_live of before (id ∷ ids) all =
      let here : slice_get of.targets (length before) ≡ Some id = ap (λ ts. slice_get ts (length before)) (sym all) ∙ slice_get-behind before id ids in
      let count : length (before ++ id ∷ []) ≡ length before + 1 = length-append before (id ∷ []) in
      let rest = found_are_live of (before ++ id ∷ []) ids (append_assoc before (id ∷ []) ids ∙ all) in
      let first = option_map (λ (t : TargetData × ℕ). t.1) (live_target files w of id) in
      ap (λ o. option_to_list (option_map (λ (t : TargetData × ℕ). (length before, t.0, t.1)) (found_target w o first))
      ++ found_targets w of (length before + 1) (map (λ id. option_map (λ t. t.1) (live_target files w of id)) ids)) here
      ∙ ap (λ o. option_to_list (option_map (λ (t : TargetData × ℕ). (length before, t.0, t.1)) o)
      ++ found_targets w of (length before + 1) (map (λ id. option_map (λ t. t.1) (live_target files w of id)) ids)) (found_is_live of id)
      ∙ ap (λ ts. option_to_list (option_map (λ (t : TargetData × ℕ). (length before, t.0, t.1)) (live_target files w of id)) ++ ts)
      (ap (λ n. found_targets w of n (map (λ id. option_map (λ t. t.1) (live_target files w of id)) ids)) (sym count) ∙ rest ∙ ap (λ n. live_targets files w of (enumerate_from n ids)) count)

  owner_is_live : (p n : ℕ) (of : PackageData) → owner_by w p n of (files_of files w of) ≡ owner files w p n of
  unfolding files_of owner
  owner_is_live p n of = ap (λ ts. record { of = of; rows = rows_from p of n ts }) (found_are_live of [] of.targets refl)

  pub owners_are_live : (p n : ℕ) (all : List PackageData) → owners_by w p n all (map (files_of files w) all) ≡ owners_from files w p n all
  owners_are_live p n [] = refl
  owners_are_live p n (of ∷ more) =
      ap (λ o. o ∷ owners_by w (p + 1) (n + length o.rows) more (map (files_of files w) more)) (owner_is_live p n of)
      ∙ ap (λ os. owner files w p n of ∷ os) (owners_are_live (p + 1) (n + length (owner files w p n of).rows) more)
