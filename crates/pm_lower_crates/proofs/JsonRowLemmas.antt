-- How the rows of a document are gathered while their crates come into a graph, and how they are numbered.
use Rattle.std.proofs.Common.{◌≡◌, ℕ, zero, suc, ◌+◌, ◌<◌, ◌≤◌, List, [], ◌∷◌, ◌++◌, map, length, get_or, Option, Some, None, refl, sym, ap, ◌∙◌, subst, arith, append_assoc}
use Rattle.std.specs.List.{All, range_with_len}
use Rattle.std.specs.Option.{option_map, option_to_list}
use Rattle.std.proofs.lemmas.List.{append-nil, length-append, length-map, map-append, get_or-map}
use Rattle.std.proofs.lemmas.List.Concat.{flat_map-append}
use Rattle.std.proofs.lemmas.List.Elements.{All-head, All-tail}
use Rattle.std.proofs.lemmas.List.FromFn.{get_or-range_with_len}
use Rattle.std.proofs.lemmas.Option.{same_Some}
use Rattle.crate_graph.specs.Graph.{Graph}
use Rattle.pm_json.specs.declared.krate.Crate.{Crate}
use Rattle.pm_json.specs.declared.project_json.ProjectJson.{ProjectJson}
use Rattle.pm_lower_crates.specs.Loader.{FileNumbers, file_number}
use Rattle.pm_lower_crates.specs.Facts.{Facts}
use Rattle.pm_lower_crates.specs.Lowering.{crate_seen}
use Rattle.pm_lower_crates.specs.JsonGathering.{AddsJsonRows}
use Rattle.pm_lower_crates.specs.JsonLowering.{json_row_crate}
use Rattle.pm_lower_crates.specs.JsonRows.{JsonRow, json_row_at, row_in, json_row, rows_among, json_rows_from}

-- ---- the crates of rows in a graph

module _ (facts : Facts) (project : ProjectJson) where
  pub adds_none : (old : Graph) → AddsJsonRows facts project old old []
  adds_none old = record { limit = refl; within = λ h. h; crates = sym (append-nil (map crate_seen old.crates)) }

  pub adds_more : (old mid new : Graph) (xs ys : List JsonRow) → AddsJsonRows facts project old mid xs → AddsJsonRows facts project mid new ys → AddsJsonRows facts project old new (xs ++ ys)
  adds_more old mid new xs ys a b = record {
    limit = b.limit ∙ a.limit;
    within = λ h. subst (λ n. length new.crates ≤ n) a.limit (b.within (subst (λ n. length mid.crates ≤ n) (sym a.limit) (a.within h)));
    crates = b.crates ∙ ap (λ cs. cs ++ map (json_row_crate facts project) ys) a.crates
        ∙ append_assoc (map crate_seen old.crates) (map (json_row_crate facts project) xs) (map (json_row_crate facts project) ys)
        ∙ ap (λ cs. map crate_seen old.crates ++ cs) (sym (map-append (json_row_crate facts project) xs ys));
  }

  pub count_added : (old new : Graph) (rows : List JsonRow) → AddsJsonRows facts project old new rows → length new.crates ≡ length old.crates + length rows
  count_added old new rows a =
      sym (length-map new.crates crate_seen) ∙ ap length a.crates ∙ length-append (map crate_seen old.crates) (map (json_row_crate facts project) rows)
      ∙ ap (λ n. n + length (map (json_row_crate facts project) rows)) (length-map old.crates crate_seen) ∙ ap (λ n. length old.crates + n) (length-map rows (json_row_crate facts project))

-- ---- the rows of a document, as far as it is read

-- what a loader says of a root module, by the files that it had first
pub file_found : (files now : FileNumbers) (asked root : List ℕ) (file : Option ℕ) → file ≡ file_number now asked → now ≡ files → asked ≡ root → file ≡ file_number files root
file_found files now asked root file found same path = found ∙ ap (λ fs. file_number fs asked) same ∙ ap (file_number files) path

among-push : (rows : List (Option JsonRow)) (row : Option JsonRow) → rows_among (rows ++ row ∷ []) ≡ rows_among rows ++ option_to_list row
among-push rows row = flat_map-append option_to_list rows (row ∷ []) ∙ ap (λ rs. rows_among rows ++ rs) (append-nil (option_to_list row))

-- a row is there just where the root module is live
one_or_none : (k n : ℕ) (krate : Crate) (file : Option ℕ) → length (option_to_list (option_map (row_in k n krate) file)) ≡ length (option_to_list file)
one_or_none k n krate None = refl
one_or_none k n krate (Some f) = refl

module _ (files : FileNumbers) (facts : Facts) (project : ProjectJson) (all : List Crate) (old : Graph) where
  -- the rows of the crates before those that are left
  pub record Gathers (k : ℕ) (rest : List Crate) (new : Graph) (rows : List (Option JsonRow)) : Type 0 where
    pub rows_are : rows ++ json_rows_from files k (length new.crates) rest ≡ json_rows_from files 0 (length old.crates) all
    pub adds : AddsJsonRows facts project old new (rows_among rows)

  pub gathers_none : Gathers 0 all old []
  gathers_none = record { rows_are = refl; adds = adds_none facts project old }

  -- one crate more
  pub gathers_more : (k : ℕ) (c : Crate) (rest : List Crate) (mid new : Graph) (rows more : List (Option JsonRow)) (row : Option JsonRow)
      → row ≡ json_row files k (length mid.crates) c → AddsJsonRows facts project mid new (option_to_list row) → more ≡ rows ++ row ∷ []
      → Gathers k (c ∷ rest) mid rows → Gathers (k + 1) rest new more
  gathers_more k c rest mid new rows more row row_is adds more_is g =
      let count : length new.crates ≡ length mid.crates + length (option_to_list (json_row files k (length mid.crates) c)) =
      count_added facts project mid new (option_to_list row) adds ∙ ap (λ o. length mid.crates + length (option_to_list o)) row_is in
      record {
        rows_are = ap (λ rs. rs ++ json_rows_from files (k + 1) (length new.crates) rest) more_is ∙ append_assoc rows (row ∷ []) (json_rows_from files (k + 1) (length new.crates) rest)
            ∙ ap (λ n. rows ++ row ∷ json_rows_from files (k + 1) n rest) count
            ∙ ap (λ o. rows ++ o ∷ json_rows_from files (k + 1) (length mid.crates + length (option_to_list (json_row files k (length mid.crates) c))) rest) row_is ∙ g.rows_are;
        adds = subst (AddsJsonRows facts project old new) (sym (among-push rows row) ∙ ap rows_among (sym more_is))
            (adds_more facts project old mid new (rows_among rows) (option_to_list row) g.adds adds);
      }

  -- a crate past the limit
  pub gathers_full : (k : ℕ) (c : Crate) (rest : List Crate) (new : Graph) (rows : List (Option JsonRow)) (file : Option ℕ) → file ≡ file_number files c.root_module
      → new.limit < length new.crates + length (option_to_list file)
      → Gathers k (c ∷ rest) new rows → old.limit < length old.crates + length (rows_among (json_rows_from files 0 (length old.crates) all))
  unfolding json_row
  gathers_full k c rest new rows file file_is full g =
      let row = json_row files k (length new.crates) c in
      let others = json_rows_from files (k + 1) (length new.crates + length (option_to_list row)) rest in
      let here : length (option_to_list row) ≡ length (option_to_list file) =
      one_or_none k (length new.crates) c (file_number files c.root_module) ∙ ap (λ o. length (option_to_list o)) (sym file_is) in
      let long : length (rows_among (json_rows_from files 0 (length old.crates) all)) ≡ length (rows_among rows) + (length (option_to_list row) + length (rows_among others)) =
      sym (ap (λ rs. length (rows_among rs)) g.rows_are) ∙ ap length (flat_map-append option_to_list rows (row ∷ others))
      ∙ length-append (rows_among rows) (option_to_list row ++ rows_among others) ∙ ap (λ n. length (rows_among rows) + n) (length-append (option_to_list row) (rows_among others)) in
      omega (arith, long, here, full, count_added facts project old new (rows_among rows) g.adds, g.adds.limit)

  pub gathers_all : (k : ℕ) (new : Graph) (rows : List (Option JsonRow)) → Gathers k [] new rows → rows ≡ json_rows_from files 0 (length old.crates) all
  gathers_all k new rows g = sym (append-nil rows) ∙ g.rows_are

-- ---- numbers

module _ (files : FileNumbers) where
  numbers_more : (n : ℕ) (o : Option JsonRow) (rest : ℕ → List JsonRow) → ((r : JsonRow) → o ≡ Some r → r.number ≡ n) → ((m : ℕ) → map (λ (r : JsonRow). r.number) (rest m) ≡ range_with_len m (length (rest m)))
      → map (λ (r : JsonRow). r.number) (option_to_list o ++ rest (n + length (option_to_list o))) ≡ range_with_len n (length (option_to_list o ++ rest (n + length (option_to_list o))))
  numbers_more n None rest is others =
      let same : n + 0 ≡ n = omega arith in
      subst (λ m. map (λ (r : JsonRow). r.number) (rest m) ≡ range_with_len n (length (rest m))) (sym same) (others n)
  numbers_more n (Some r) rest is others =
      ap (λ k. k ∷ map (λ (x : JsonRow). x.number) (rest (n + 1))) (is r refl) ∙ ap (λ ks. n ∷ ks) (others (n + 1))

  number_of_row : (k n : ℕ) (c : Crate) (r : JsonRow) → json_row files k n c ≡ Some r → r.number ≡ n
  unfolding json_row
  number_of_row k n c r is = by (file_number files c.root_module) is
    where
      by : (file : Option ℕ) → option_map (row_in k n c) file ≡ Some r → r.number ≡ n
      by None none = cc
      by (Some f) same = ap (λ (x : JsonRow). x.number) (sym (same_Some (row_in k n c f) r same))

  -- the rows of a document are numbered through
  pub numbers_from : (k n : ℕ) (cs : List Crate) → map (λ (r : JsonRow). r.number) (rows_among (json_rows_from files k n cs)) ≡ range_with_len n (length (rows_among (json_rows_from files k n cs)))
  numbers_from k n [] = refl
  numbers_from k n (c ∷ cs) = numbers_more n (json_row files k n c) (λ m. rows_among (json_rows_from files (k + 1) m cs)) (number_of_row k n c) (λ m. numbers_from (k + 1) m cs)

module _ (n : ℕ) (rows : List JsonRow) (numbers : map (λ (r : JsonRow). r.number) rows ≡ range_with_len n (length rows)) where
  number_at : (k : ℕ) (d : JsonRow) → k < length rows → (get_or rows k d).number ≡ n + k
  number_at k d within = sym (get_or-map (λ (r : JsonRow). r.number) rows k d 0 within) ∙ ap (λ ns. get_or ns k 0) numbers ∙ get_or-range_with_len n (length rows) k 0 within

  -- rows that are numbered through from n on have numbers below n and their count
  pub rows_below : All (λ (r : JsonRow). r.number < n + length rows) rows
  rows_below = λ k d within. omega (arith, number_at k d within, within)

  -- and none below n
  pub rows_above : All (λ (r : JsonRow). n ≤ r.number) rows
  rows_above = λ k d within. omega (arith, number_at k d within)

-- what holds of all rows holds of the one at a place
pub all_at : (P : JsonRow → Type 0) (rows : List (Option JsonRow)) (i : ℕ) (r : JsonRow) → All P (rows_among rows) → json_row_at rows i ≡ Some r → P r
all_at P [] i r all is = cc
all_at P (None ∷ os) zero r all is = cc
all_at P (Some x ∷ os) zero r all is = let same : x ≡ r = cc in subst P same (All-head P x (rows_among os) all)
all_at P (None ∷ os) (suc i) r all is = all_at P os i r all is
all_at P (Some x ∷ os) (suc i) r all is = all_at P os i r (All-tail P x (rows_among os) all) is
