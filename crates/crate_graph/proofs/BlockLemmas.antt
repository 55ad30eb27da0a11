-- Nodes that go below the source of a new edge, and the others that go above its target, are one and the same move.
use Rattle.std.proofs.Common.{◌≡◌, ℕ, ◌+◌, ◌<◌, ◌≤◌, ◌⊎◌, inl, inr, true, false, Bool, List, [], length, get_or, refl, sym, ap, ◌∙◌, subst, arith}
use Rattle.std.specs.Prelude.{slice_index}
use Rattle.std.specs.List.{All, Contains}
use Rattle.std.proofs.lemmas.Bool.{cases_lt, cases_order, false≢true}
use Rattle.std.proofs.lemmas.List.{get_or_default}
use Rattle.graph_base.specs.Edges.{IsInRange}
use Rattle.graph_base.specs.Reach.{Reaches}
use Rattle.graph_base.specs.Blocks.{AreInRankOrder, FitAbove, FitBelow, IsAmong, RearrangesAbove, RearrangesBelow}
use Rattle.graph_base.specs.Blocks as table
use Rattle.graph_base.specs.Ranks.{AreRanks}
use Rattle.crate_graph.specs.Blocks.{Block, IsMoved, IsOther, MovesBlock, block_of}
use Rattle.crate_graph.specs.Order.{IsOrder, Ranking}
use Rattle.crate_graph.proofs.EachOnceLemmas.{contains_at, place_in}
use Rattle.crate_graph.proofs.OrderRankLemmas.{same_node}
use Rattle.graph_base.proofs.ListingLemmas.{has_or_not}

among_of : (nodes : List ℕ) (n : ℕ) → Contains nodes n → IsAmong nodes (length nodes) n
among_of nodes n c = let k = place_in nodes n c in record { place = k.0; early = k.1; node_is = k.2 }

of_among : (nodes : List ℕ) (n : ℕ) → IsAmong nodes (length nodes) n → Contains nodes n
of_among nodes n is = subst (Contains nodes) is.node_is (contains_at nodes is.place is.early)

other_of : (below : ℕ) (nodes : List ℕ) (old : Ranking) (n : ℕ) → IsOrder old → IsOther (block_of below nodes) old n → table.IsOther nodes (length nodes) old.ranks n
other_of below nodes old n is other = (omega (arith, other.0, is.long), λ among. other.1 (of_among nodes n among))

-- nodes that go below a node
pub below_is_block : (below : ℕ) (nodes : List ℕ) (old new : Ranking) → IsOrder old → IsOrder new → RearrangesBelow below nodes old.ranks new.ranks → MovesBlock (block_of below nodes) old new
below_is_block below nodes old new is_old is_new r = record {
  order = is_new;
  count = sym is_new.long ∙ r.each.long ∙ is_old.long;
  moved = λ m n m_is n_is less. r.each.moved m n (among_of nodes m m_is) (among_of nodes n n_is) less;
  others = λ m n m_is n_is less. r.each.others m n (other_of below nodes old m is_old m_is) (other_of below nodes old n is_old n_is) less;
  up = λ m n m_is n_is from. r.up m n (among_of nodes m m_is) (other_of below nodes old n is_old n_is) from;
  down = λ m n m_is n_is less. r.down m n (other_of below nodes old m is_old m_is) (among_of nodes n n_is) less;
}

-- of the nodes from one up to another, some are found and the others are listed
pub record AreSplit (old : Ranking) (from to : ℕ) (found others : List ℕ) : Type 0 where
  pub found_in : (n : ℕ) → Contains found n → n < length old.ranks
  pub found_above : (n : ℕ) → Contains found n → get_or old.ranks from 0 < get_or old.ranks n 0
  pub found_under : (n : ℕ) → Contains found n → get_or old.ranks n 0 ≤ get_or old.ranks to 0
  pub to_found : Contains found to
  pub others_from : (n : ℕ) → IsAmong others (length others) n → get_or old.ranks from 0 ≤ get_or old.ranks n 0
  pub others_under : (n : ℕ) → IsAmong others (length others) n → get_or old.ranks n 0 < get_or old.ranks to 0
  pub apart : (n : ℕ) → IsAmong others (length others) n → Contains found n → ⊥
  pub all : (n : ℕ) → n < length old.ranks → get_or old.ranks from 0 ≤ get_or old.ranks n 0 → get_or old.ranks n 0 < get_or old.ranks to 0
      → (Contains found n → ⊥) → IsAmong others (length others) n

module _ (old new : Ranking) (from to : ℕ) (found others : List ℕ) (is_old : IsOrder old) (is_new : IsOrder new) (split : AreSplit old from to found others)
    (r : RearrangesAbove to others old.ranks new.ranks) where
  among_or_not : (n : ℕ) → IsAmong others (length others) n ⊎ (IsAmong others (length others) n → ⊥)
  among_or_not n = elim (has_or_not others n) [
    | inl there ↦ inl (among_of others n there)
    | inr none ↦ inr (λ among. none (of_among others n among))
  ]

  stays_found : (n : ℕ) → Contains found n → table.IsOther others (length others) old.ranks n
  stays_found n is = (split.found_in n is, λ among. split.apart n among is)

  -- what is neither found nor one of the others lies below them all or above them all
  outside : (n : ℕ) → n < length old.ranks → (Contains found n → ⊥) → (IsAmong others (length others) n → ⊥)
      → (get_or old.ranks n 0 < get_or old.ranks from 0) ⊎ (get_or old.ranks to 0 < get_or old.ranks n 0)
  outside n there apart none = elim (cases_lt (get_or old.ranks n 0) (get_or old.ranks from 0)) [
    | inl under ↦ inl under
    | inr over ↦ elim (cases_order (get_or old.ranks n 0) (get_or old.ranks to 0)) [
      | inl same ↦
          let to_in = split.found_in to split.to_found in
          let one : n ≡ to = same_node old n to is_old (omega (arith, there, is_old.long)) (omega (arith, to_in, is_old.long)) same in
          absurd (apart (subst (Contains found) (sym one) split.to_found))
      | inr other ↦ elim other [
        | inl less ↦ absurd (none (split.all n there over less apart))
        | inr more ↦ inr more
      ]
    ]
  ]

  moves_others : (m n : ℕ) → IsOther (block_of from found) old m → IsOther (block_of from found) old n → get_or old.ranks m 0 < get_or old.ranks n 0
      → get_or new.ranks m 0 < get_or new.ranks n 0
  moves_others m n m_is n_is less =
      let m_in : m < length old.ranks = omega (arith, m_is.0, is_old.long) in
      let n_in : n < length old.ranks = omega (arith, n_is.0, is_old.long) in
      elim (among_or_not m) [
        | inl m_among ↦ elim (among_or_not n) [
          | inl n_among ↦ r.each.moved m n m_among n_among less
          | inr n_none ↦ elim (outside n n_in n_is.1 n_none) [
            | inl under ↦ absurd (omega (arith, under, less, split.others_from m m_among))
            | inr over ↦ r.up m n m_among (n_in, n_none) over
          ]
        ]
        | inr m_none ↦ elim (among_or_not n) [
          | inl n_among ↦ r.down m n (m_in, m_none) n_among (omega (arith, less, split.others_under n n_among))
          | inr n_none ↦ r.each.others m n (m_in, m_none) (n_in, n_none) less
        ]
      ]

  moves_up : (m n : ℕ) → IsMoved (block_of from found) m → IsOther (block_of from found) old n → get_or old.ranks from 0 ≤ get_or old.ranks n 0
      → get_or new.ranks m 0 < get_or new.ranks n 0
  moves_up m n m_is n_is up =
      let n_in : n < length old.ranks = omega (arith, n_is.0, is_old.long) in
      elim (among_or_not n) [
        | inl n_among ↦ r.down m n (stays_found m m_is) n_among (split.found_under m m_is)
        | inr n_none ↦ elim (outside n n_in n_is.1 n_none) [
          | inl under ↦ absurd (omega (arith, under, up))
          | inr over ↦ r.each.others m n (stays_found m m_is) (n_in, n_none) (omega (arith, over, split.found_under m m_is))
        ]
      ]

  moves_down : (m n : ℕ) → IsOther (block_of from found) old m → IsMoved (block_of from found) n → get_or old.ranks m 0 < get_or old.ranks from 0
      → get_or new.ranks m 0 < get_or new.ranks n 0
  moves_down m n m_is n_is under =
      let m_in : m < length old.ranks = omega (arith, m_is.0, is_old.long) in
      let m_none : IsAmong others (length others) m → ⊥ = λ among. omega (arith, under, split.others_from m among) in
      r.each.others m n (m_in, m_none) (stays_found n n_is) (omega (arith, under, split.found_above n n_is))

  -- the others that go above a node leave what is found directly below the others
  pub above_is_block : MovesBlock (block_of from found) old new
  above_is_block = record {
    order = is_new;
    count = sym is_new.long ∙ r.each.long ∙ is_old.long;
    moved = λ m n m_is n_is less. r.each.others m n (stays_found m m_is) (stays_found n n_is) less;
    others = moves_others;
    up = moves_up;
    down = moves_down;
  }
