-- a pair of what is kept is kept
use Rattle.std.proofs.Common.{◌≡◌, ℕ, max, arith, List, [], ◌∷◌, length, Err, refl}
use Rattle.std.specs.Result.{IfOk}
use Rattle.serde_json.specs.Data.{Data, null, boolean, number, string, array, object, no_items, item, depth}
use Rattle.serde_json.specs.View.{items_view}
use Rattle.serde_json.specs.declared.value.Value.{Value}
use Rattle.serde_json.specs.Written.{has_float}
use Rattle.json_fields.specs.Laws.Parts.{first_of_none, rest_of_none}
use Rattle.json_fields.specs.Laws.RoundTrips.{ReadsAs, and_then, at_last, below_position-as, raised-above}
use Rattle.json_fields.specs.Outcome.{Reading}
use Rattle.json_fields.specs.Pairs.{json_pair_at, pair_data, two_items}
use Rattle.json_fields.specs.RoundTrip.{IsKept, RoundTrips, outer_height}

module _ {A B : Type 0} (ra : Data → Reading A) (wa : A → Data) (ha : ℕ) (ka : RoundTrips ra wa ha)
    (rb : Data → Reading B) (wb : B → Data) (hb : ℕ) (kb : RoundTrips rb wb hb) where
  first-kept : (d : Data) → ReadsAs (ra d) (IsKept ra wa (has_float d) (max ha (depth d)))
  first-kept d = record { holds = ka.keeps d }

  second-kept : (d : Data) → ReadsAs (rb d) (IsKept rb wb (has_float d) (max hb (depth d)))
  second-kept d = record { holds = kb.keeps d }

  two-kept : (d e : Data) → ReadsAs (two_items ra rb (item d (item e no_items)))
      (IsKept (json_pair_at ra rb) (pair_data wa wb) (has_float (array (item d (item e no_items)))) (max (max (outer_height ha) (outer_height hb)) (depth (array (item d (item e no_items))))))
  two-kept d e =
      and_then (below_position-as 0 (first-kept d)) λ x first.
      and_then (below_position-as 1 (second-kept e)) λ y second.
      at_last (record {
        again = rw (first.again, second.again) refl;
        clean =
            λ none. rw (first.clean (first_of_none (has_float d) _ none), second.clean (first_of_none (has_float e) _ (rest_of_none (has_float d) _ none))) refl;
        nests =
            omega
            (arith, raised-above ha (depth d) (depth (wa x)) first.nests, raised-above hb (depth e) (depth (wb y)) second.nests);
      })

  pair-kept : (d : Data)
      → IfOk (json_pair_at ra rb d)
      (IsKept (json_pair_at ra rb) (pair_data wa wb) (has_float d) (max (max (outer_height ha) (outer_height hb)) (depth d)))
  pair-kept null = tt
  pair-kept (boolean b) = tt
  pair-kept (number n) = tt
  pair-kept (string s) = tt
  pair-kept (array no_items) = tt
  pair-kept (array (item d no_items)) = tt
  pair-kept (array (item d (item e no_items))) = (two-kept d e).holds
  pair-kept (array (item d (item e (item f ds)))) = tt
  pair-kept (object ms) = tt

  -- pairs
  pub pair-round_trips :
      RoundTrips (json_pair_at ra rb) (pair_data wa wb) (max (outer_height ha) (outer_height hb))
  pair-round_trips = record { keeps = pair-kept }

-- a list of another length is no pair
pub two_items-other : {A B : Type 0} (ra : Data → Reading A) (rb : Data → Reading B) (vs : List Value)
    → (length vs ≡ 2 → ⊥) → two_items ra rb (items_view vs) ≡ Err []
two_items-other ra rb [] other = refl
two_items-other ra rb (v ∷ []) other = refl
two_items-other ra rb (v ∷ w ∷ []) other = absurd (other refl)
two_items-other ra rb (v ∷ w ∷ u ∷ vs) other = refl
