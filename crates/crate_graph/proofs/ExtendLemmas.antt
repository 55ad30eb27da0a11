-- Crates taken in, one after another.
use Rattle.std.proofs.Common.{◌≡◌, ℕ, zero, suc, ◌+◌, ◌<◌, ◌≤◌, inl, inr, Bool, List, [], ◌∷◌, map, take, drop, length, get_or, fold, position, Option, Some, None, refl, sym, ap, ◌∙◌, subst, arith, length-set}
use Rattle.std.specs.Prelude.{slice_get, unwrap_or}
use Rattle.std.specs.List.{All, Contains}
use Rattle.std.specs.Option.{option_map}
use Rattle.std.proofs.lemmas.Bool.{cases_lt}
use Rattle.std.proofs.lemmas.List.{get_or_past, length-map, length-replicate, length_push, take-append-drop, take-append-le}
use Rattle.std.proofs.lemmas.List.Elements.{Contains-get_or}
use Rattle.std.proofs.lemmas.List.Sums.{fold-append, fold_more}
use Rattle.graph_base.specs.Edges.{HasEdge, IsInRange}
use Rattle.graph_base.proofs.ReachLemmas.{none_in}
use Rattle.crate_graph_values.specs.declared.builder.CrateBuilder.{CrateBuilder}
use Rattle.crate_graph_values.specs.declared.crate_data.Dependency.{Dependency}
use Rattle.crate_graph.specs.Extend.{Id, Merge, before_merge, with_sorted_dependencies, with_new_ids, new_id_at, take_in, with_first_equal, with_crate_at, merge_of}
use Rattle.crate_graph.specs.Graph.{edges, dependency_row, target_of}
use Rattle.crate_graph.proofs.GraphLemmas.{length-edges, row-at, slice_get_some}

-- ---- crates and edges

-- the crate from which an edge leads
pub edge_crate : (crates : List CrateBuilder) (k b : ℕ) → HasEdge (edges crates) k b → (krate : CrateBuilder) × (slice_get crates k ≡ Some krate) × Contains (dependency_row krate) b
edge_crate crates k b e = elim (cases_lt k (length crates)) [
  | inl within ↦
      let at = slice_get_some crates k within in
      (at.0, at.1, subst (λ r. Contains r b) (row-at crates k at.0 at.1) e)
  | inr past ↦ absurd (none_in b (subst (λ r. Contains r b) (get_or_past (edges crates) k [] (omega (arith, length-edges crates))) e))
]

pub crate_edge : (crates : List CrateBuilder) (k b : ℕ) (krate : CrateBuilder) → slice_get crates k ≡ Some krate → Contains (dependency_row krate) b → HasEdge (edges crates) k b
crate_edge crates k b krate is c = subst (λ r. Contains r b) (sym (row-at crates k krate is)) c

-- the targets of a crate's dependencies are numbers of the graph
pub targets_within : (crates : List CrateBuilder) (k : ℕ) (krate : CrateBuilder) (n : ℕ) → IsInRange (edges crates) → n ≡ length crates → slice_get crates k ≡ Some krate → All (λ dep. target_of dep < n) krate.basic.dependencies
targets_within crates k krate n in_range long is = λ i d within.
    let row : List ℕ = dependency_row krate in
    let inside : i < length (map target_of krate.basic.dependencies) = omega (arith, length-map krate.basic.dependencies target_of) in
    let target : get_or (map target_of krate.basic.dependencies) i 0 ≡ target_of (get_or krate.basic.dependencies i d) = get_or-map-at krate.basic.dependencies i d 0 within in
    let edge = crate_edge crates k (get_or (dependency_row krate) i 0) krate is (Contains-get_or (dependency_row krate) i 0 inside) in
    omega (arith, in_range k (get_or (dependency_row krate) i 0) edge, length-edges crates)
  where
    get_or-map-at : (deps : List (Dependency Id)) (i : ℕ) (d : Dependency Id) (z : ℕ) → i < length deps → get_or (map target_of deps) i z ≡ target_of (get_or deps i d)
    get_or-map-at [] i d z within = absurd (omega arith)
    get_or-map-at (x ∷ xs) zero d z within = refl
    get_or-map-at (x ∷ xs) (suc i) d z within = get_or-map-at xs i d z (omega arith)

-- one crate is taken in
pub take_in-at : (eq : CrateBuilder → CrateBuilder → Bool) (olds : ℕ) (others : List CrateBuilder) (j : Merge) (n : ℕ) (krate : CrateBuilder) → slice_get others n ≡ Some krate
    → take_in eq olds others j n ≡ with_first_equal eq olds j n (with_new_ids (new_id_at j.new_numbers) krate)
unfolding take_in
take_in-at eq olds others j n krate is = ap (λ o. unwrap_or (option_map (λ k. with_first_equal eq olds j n (with_new_ids (new_id_at j.new_numbers) k)) o) j) is

-- ---- how the crates and numbers grow

with_crate_at-longer : (j : Merge) (n : ℕ) (krate : CrateBuilder) (o : Option ℕ) → length j.crates ≤ length (with_crate_at j n krate o).crates
with_crate_at-longer j n krate (Some place) = omega arith
with_crate_at-longer j n krate None = omega (arith, length_push j.crates krate)

with_crate_at-new_numbers : (j : Merge) (n : ℕ) (krate : CrateBuilder) (o : Option ℕ) → length (with_crate_at j n krate o).new_numbers ≡ length j.new_numbers
with_crate_at-new_numbers j n krate (Some place) = length-set j.new_numbers n place
with_crate_at-new_numbers j n krate None = length-set j.new_numbers n (length j.crates)

with_crate_at-olds : (olds : ℕ) (j : Merge) (n : ℕ) (krate : CrateBuilder) (o : Option ℕ) → olds ≤ length j.crates → take olds (with_crate_at j n krate o).crates ≡ take olds j.crates
with_crate_at-olds olds j n krate (Some place) fits = refl
with_crate_at-olds olds j n krate None fits = take-append-le olds j.crates (krate ∷ []) fits

module _ (eq : CrateBuilder → CrateBuilder → Bool) (olds : ℕ) (others : List CrateBuilder) where
  -- the old crates stay
  pub take_in-olds : (j : Merge) (n : ℕ) → olds ≤ length j.crates → take olds (take_in eq olds others j n).crates ≡ take olds j.crates
  unfolding take_in
  take_in-olds j n fits = elim (slice_get others n) as (λ o. take olds (unwrap_or (option_map (λ k. with_first_equal eq olds j n (with_new_ids (new_id_at j.new_numbers) k)) o) j).crates ≡ take olds j.crates) [
    | Some krate ↦ with_crate_at-olds olds j n (with_new_ids (new_id_at j.new_numbers) krate) (position (λ old. eq old (with_new_ids (new_id_at j.new_numbers) krate)) (take olds j.crates)) fits
    | None ↦ refl
  ]

  pub take_in-longer : (j : Merge) (n : ℕ) → length j.crates ≤ length (take_in eq olds others j n).crates
  unfolding take_in
  take_in-longer j n = elim (slice_get others n) as (λ o. length j.crates ≤ length (unwrap_or (option_map (λ k. with_first_equal eq olds j n (with_new_ids (new_id_at j.new_numbers) k)) o) j).crates) [
    | Some krate ↦ with_crate_at-longer j n (with_new_ids (new_id_at j.new_numbers) krate) (position (λ old. eq old (with_new_ids (new_id_at j.new_numbers) krate)) (take olds j.crates))
    | None ↦ omega arith
  ]

  pub take_in-new_numbers : (j : Merge) (n : ℕ) → length (take_in eq olds others j n).new_numbers ≡ length j.new_numbers
  unfolding take_in
  take_in-new_numbers j n = elim (slice_get others n) as (λ o. length (unwrap_or (option_map (λ k. with_first_equal eq olds j n (with_new_ids (new_id_at j.new_numbers) k)) o) j).new_numbers ≡ length j.new_numbers) [
    | Some krate ↦ with_crate_at-new_numbers j n (with_new_ids (new_id_at j.new_numbers) krate) (position (λ old. eq old (with_new_ids (new_id_at j.new_numbers) krate)) (take olds j.crates))
    | None ↦ refl
  ]

  fold-longer : (j : Merge) (ns : List ℕ) → length j.crates ≤ length (fold (take_in eq olds others) j ns).crates
  fold-longer j [] = omega arith
  fold-longer j (n ∷ ns) = omega (arith, take_in-longer j n, fold-longer (take_in eq olds others j n) ns)

  -- what passes the limit on the way passes it at the end
  pub passes_later : (j : Merge) (ns : List ℕ) (i limit : ℕ) → i < length ns → limit < length (take_in eq olds others (fold (take_in eq olds others) j (take i ns)) (get_or ns i 0)).crates → limit < length (fold (take_in eq olds others) j ns).crates
  passes_later j ns i limit within past =
      let f = take_in eq olds others in
      let split : fold f j ns ≡ fold f (f (fold f j (take i ns)) (get_or ns i 0)) (drop (i + 1) ns) =
      ap (fold f j) (sym (take-append-drop (i + 1) ns)) ∙ fold-append f j (take (i + 1) ns) (drop (i + 1) ns) ∙ ap (λ start. fold f start (drop (i + 1) ns)) (fold_more f j ns i 0 within) in
      subst (λ z. limit < length z.crates) (sym split) (omega (arith, past, fold-longer (f (fold f j (take i ns)) (get_or ns i 0)) (drop (i + 1) ns)))

pub before_merge-long : (olds others : List CrateBuilder) → length (before_merge olds others).crates ≡ length olds
before_merge-long olds others = length-map olds with_sorted_dependencies

pub before_merge-new_numbers : (olds others : List CrateBuilder) → length (before_merge olds others).new_numbers ≡ length others
before_merge-new_numbers olds others = length-replicate (length others) 0

pub merge_of-longer : (eq : CrateBuilder → CrateBuilder → Bool) (olds others : List CrateBuilder) (order : List ℕ) → length olds ≤ length (merge_of eq olds others order).crates
merge_of-longer eq olds others order = omega (arith, before_merge-long olds others, fold-longer eq (length olds) others (before_merge olds others) order)
