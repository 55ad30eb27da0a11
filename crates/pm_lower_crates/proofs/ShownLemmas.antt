-- Rows in their own order keep their numbers.
use Rattle.std.proofs.Common.{◌≡◌, ◌↔◌, ℕ, suc, zero, ◌+◌, ◌<◌, List, [], ◌∷◌, map, length, Some, Result, Ok, slice_get, not, cond, refl, sym, ap, ◌∙◌, arith, ◌==◌}
use Rattle.std.specs.List.{All, position_or_len, range_with_len}
use Rattle.std.specs.Option.{option_map}
use Rattle.std.proofs.lemmas.Bool.{eq-eqb, ne_eqb}
use Rattle.std.proofs.lemmas.List.Elements.{All-head, All-tail}
use Rattle.crate_graph.specs.Graph.{Graph}
use Rattle.crate_graph_values.specs.declared.builder.CrateBuilder.{CrateBuilder}
use Rattle.pm_lower_crates.specs.Lowering.{Crate, HasCrates, crate_seen}
use Rattle.pm_lower_crates.specs.Shown.{ShowsRows, crate_under, dep_under, none_sorted, own_order, place_in}
use Rattle.pm_lower_crates.specs.WantedEdges.{Dep}
use Rattle.pm_lower_crates.specs.declared.lower_error.LowerError.{LowerError}

found_at : (n k count : ℕ) → k < count → position_or_len (λ m. m == (n + k)) (range_with_len n count) ≡ k
found_at n k zero within = absurd (omega (arith, within))
found_at n zero (suc count) within =
    let same : n ≡ n + zero = omega arith in
    ap (λ b. cond (not b) (1 + position_or_len (λ m. m == (n + zero)) (range_with_len (n + 1) count)) 0) (eq-eqb n (n + zero) same)
found_at n (suc k) (suc count) within =
    let next : n + suc k ≡ (n + 1) + k = omega arith in
    ap (λ b. cond (not b) (1 + position_or_len (λ m. m == (n + suc k)) (range_with_len (n + 1) count)) 0) (ne_eqb n (n + suc k) (λ same. absurd (omega (arith, same))))
    ∙ ap (λ t. 1 + position_or_len (λ m. m == t) (range_with_len (n + 1) count)) next
    ∙ ap (λ p. 1 + p) (found_at (n + 1) k count (omega (arith, within))) ∙ (let e : 1 + k ≡ suc k = omega arith in e)

module _ (count : ℕ) where
  abbrev own : List ℕ
  own = range_with_len 0 count

  own_place : (k : ℕ) → k < count → place_in own k ≡ k
  own_place k within = ap (λ t. position_or_len (λ n. n == t) own) (let e : k ≡ 0 + k = omega arith in e) ∙ found_at 0 k count within

  own_deps : (ds : List Dep) → All (λ (d : Dep). d.target < count) ds → map (dep_under own) ds ≡ ds
  own_deps [] all = refl
  own_deps (d ∷ ds) all =
      ap (λ t. record d { target = t } ∷ map (dep_under own) ds) (own_place d.target (All-head (λ (x : Dep). x.target < count) d ds all))
      ∙ ap (λ xs. d ∷ xs) (own_deps ds (All-tail (λ (x : Dep). x.target < count) d ds all))

  own_crate : (row : ℕ) (c : Crate) → All (λ (d : Dep). d.target < count) c.deps → crate_under own none_sorted row c ≡ c
  own_crate row c all = ap (λ ds. record c { deps = ds }) (own_deps c.deps all)

  abbrev Closed : Crate → Type 0
  Closed c = All (λ (d : Dep). d.target < count) c.deps

  -- the rows of a list from a place on, in order
  own_rows : (all before rest : List Crate) → All Closed rest → ((k : ℕ) → slice_get all (length before + k) ≡ slice_get rest k)
      → map (λ row. option_map (crate_under own none_sorted row) (slice_get all row)) (range_with_len (length before) (length rest)) ≡ map (λ (c : Crate). Some c) rest
  own_rows all before [] closed at = refl
  own_rows all before (c ∷ cs) closed at =
      let here : slice_get all (length before) ≡ Some c = ap (slice_get all) (let e : length before ≡ length before + 0 = omega arith in e) ∙ at 0 in
      let e : length before + 1 ≡ length (c ∷ before) = omega arith in
      ap (λ o. option_map (crate_under own none_sorted (length before)) o ∷ map (λ row. option_map (crate_under own none_sorted row) (slice_get all row)) (range_with_len (length before + 1) (length cs))) here
      ∙ ap (λ x. Some x ∷ map (λ row. option_map (crate_under own none_sorted row) (slice_get all row)) (range_with_len (length before + 1) (length cs))) (own_crate (length before) c (All-head Closed c cs closed))
      ∙ ap (λ n. Some c ∷ map (λ row. option_map (crate_under own none_sorted row) (slice_get all row)) (range_with_len n (length cs))) e
      ∙ ap (λ xs. Some c ∷ xs) (own_rows all (c ∷ before) cs (All-tail Closed c cs closed)
      (λ k. ap (slice_get all) (let f : length (c ∷ before) + k ≡ length before + suc k = omega arith in f) ∙ at (suc k)))

-- items that are there are equal where the lists of them are
drop_some : {A : Type 0} (xs ys : List A) → map (λ x. Some x) xs ≡ map (λ y. Some y) ys → xs ≡ ys
drop_some [] [] is = refl
drop_some [] (y ∷ ys) is = cc
drop_some (x ∷ xs) [] is = cc
drop_some (x ∷ xs) (y ∷ ys) is =
    let first : x ≡ y = cc in
    let rest : map (λ z. Some z) xs ≡ map (λ z. Some z) ys = cc in
    ap (λ z. z ∷ xs) first ∙ ap (λ zs. y ∷ zs) (drop_some xs ys rest)

map_some : (crates : List CrateBuilder) → map (λ krate. Some (crate_seen krate)) crates ≡ map (λ (c : Crate). Some c) (map crate_seen crates)
map_some [] = refl
map_some (c ∷ cs) = ap (λ xs. Some (crate_seen c) ∷ xs) (map_some cs)

-- what a lowering has is one list of crates
same_crates : (lowered : Result (List Crate) LowerError) (x y : List Crate) → lowered ≡ Ok x → lowered ≡ Ok y → x ≡ y
same_crates lowered x y is too = cc

pub shows_own : (limit : ℕ) (crates : List Crate) (graph : Graph) → All (λ (c : Crate). All (λ (d : Dep). d.target < length crates) c.deps) crates
    → ShowsRows limit (own_order crates) none_sorted crates graph ↔ HasCrates limit graph (Ok crates)
shows_own limit crates graph closed =
    let own_are : map (λ row. option_map (crate_under (own_order crates) none_sorted row) (slice_get crates row)) (own_order crates) ≡ map (λ (c : Crate). Some c) crates =
    own_rows (length crates) crates [] crates closed (λ k. ap (slice_get crates) (let e : 0 + k ≡ k = omega arith in e)) in (
      λ shows. record {
        crates_are = ap Ok (drop_some crates (map crate_seen graph.crates) (sym (sym (map_some graph.crates) ∙ shows.crates_are ∙ own_are)));
        limit_is = shows.limit_is;
      },
      λ has. record {
        crates_are = map_some graph.crates ∙ ap (map (λ (c : Crate). Some c)) (sym (same_crates (Ok crates) crates (map crate_seen graph.crates) refl has.crates_are)) ∙ sym own_are;
        limit_is = has.limit_is;
      },
    )
