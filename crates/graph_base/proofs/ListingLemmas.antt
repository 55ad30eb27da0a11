-- Lists of nodes in the order of their ranks.
use Rattle.std.proofs.Common.{◌≡◌, ℕ, zero, suc, ◌+◌, ◌-◌, ◌<◌, ◌≤◌, ◌≢◌, ◌⊎◌, inl, inr, Bool, true, false, eqb, Option, None, Some, List, [], ◌∷◌, ◌++◌, length, get_or, refl, sym, ap, ◌∙◌, arith, subst}
use Rattle.std.specs.Prelude.{IfSome, slice_index}
use Rattle.std.specs.Option.{IfNone}
use Rattle.std.specs.List.{All, AllPairs, Contains, list_any}
use Rattle.std.proofs.lemmas.Bool.{cases_lt, false≢true}
use Rattle.std.proofs.lemmas.Bool.Decides.{Decides-eqb}
use Rattle.std.proofs.lemmas.List.{get_or_default, length_push}
use Rattle.std.proofs.lemmas.List.Elements.{All-get_or}
use Rattle.std.proofs.lemmas.Map.Made.{IsDistinct-from_AllPairs, is_member-Decides}
use Rattle.std.proofs.lemmas.Map.Steps.{length-le_from_distinct_below}
use Rattle.graph_base.specs.Listing.{HasEach, IsInverse, IsLowest}
use Rattle.graph_base.specs.Ranks.{AreRanks, IsHighest, IsNextAbove, MovesAbove}
use Rattle.graph_base.proofs.PushingLemmas.{at_front, at_last}
use Rattle.graph_base.proofs.RingLemmas.{decide_eq}

-- numbers that differ and lie below a count are at most as many
pub few : (xs : List ℕ) (count : ℕ) → AllPairs (λ m n. m ≢ n) xs → All (λ n. n < count) xs → length xs ≤ count
few xs count once within = length-le_from_distinct_below xs count (IsDistinct-from_AllPairs Decides-eqb xs once)
    (λ q is. let c = (is_member-Decides Decides-eqb xs q).0 is in subst (λ n. n < count) c.2 (All-get_or (λ n. n < count) xs c.0 q c.1 within))

pub has_or_not : (xs : List ℕ) (n : ℕ) → Contains xs n ⊎ (Contains xs n → ⊥)
has_or_not xs n = by (list_any (eqb n) xs) (is_member-Decides Decides-eqb xs n).0 (is_member-Decides Decides-eqb xs n).1
  where
    by : (b : Bool) → (b ≡ true → Contains xs n) → (Contains xs n → b ≡ true) → Contains xs n ⊎ (Contains xs n → ⊥)
    by true there back = inl (there refl)
    by false there back = inr (λ c. false≢true (back c))

-- one more than all would be too many
differ : (ranks : List ℕ) (r : ℕ) → AreRanks ranks → (Contains ranks r → ⊥) → AllPairs (λ m n. m ≢ n) (r ∷ ranks)
differ ranks r are none zero zero d before within same = omega (arith, before)
differ ranks r are none zero (suc j) d before within same =
    let j_in : j < length ranks = omega (arith, within) in
    none (j, j_in, get_or_default ranks j r d j_in ∙ sym same)
differ ranks r are none (suc i) zero d before within same = omega (arith, before)
differ ranks r are none (suc i) (suc j) d before within same =
    let j_in : j < length ranks = omega (arith, within) in
    let i_in : i < length ranks = omega (arith, before, j_in) in
    let one : i ≡ j = are.once i j i_in j_in (get_or_default ranks i 0 d i_in ∙ same ∙ get_or_default ranks j d 0 j_in) in
    omega (arith, before, one)

below_all : (ranks : List ℕ) (r : ℕ) → AreRanks ranks → r < length ranks → All (λ n. n < length ranks) (r ∷ ranks)
below_all ranks r are there zero d within = there
below_all ranks r are there (suc k) d within =
    let k_in : k < length ranks = omega (arith, within) in
    subst (λ n. n < length ranks) (get_or_default ranks k 0 d k_in) (are.within k k_in)

-- each number below the count is the rank of a node
pub record HasRank (ranks : List ℕ) (r : ℕ) : Type 0 where
  pub node : ℕ
  pub there : node < length ranks
  pub rank_is : slice_index ranks node ≡ r

pub rank_there : (ranks : List ℕ) (r : ℕ) → AreRanks ranks → r < length ranks → HasRank ranks r
rank_there ranks r are there = elim (has_or_not ranks r) [
  | inl c ↦ record { node = c.0; there = c.1; rank_is = get_or_default ranks c.0 0 r c.1 ∙ c.2 }
  | inr none ↦ absurd (omega (arith, few (r ∷ ranks) (length ranks) (differ ranks r are none) (below_all ranks r are there)))
]

pub rank_of_lowest : (ranks : List ℕ) (node : ℕ) → AreRanks ranks → IsLowest ranks node → slice_index ranks node ≡ 0
rank_of_lowest ranks node are is =
    let first = rank_there ranks 0 are (omega (arith, is.there)) in
    omega (arith, is.least first.node first.there, first.rank_is)

pub rank_of_next : (ranks : List ℕ) (node above : ℕ) → AreRanks ranks → IsNextAbove ranks node above → slice_index ranks above ≡ slice_index ranks node + 1
rank_of_next ranks node above are is =
    let next = rank_there ranks (slice_index ranks node + 1) are (omega (arith, is.higher, are.within above is.there)) in
    omega (arith, is.higher, next.rank_is, is.least next.node next.there (omega (arith, next.rank_is)))

pub rank_of_highest : (ranks : List ℕ) (node : ℕ) → AreRanks ranks → node < length ranks → IsHighest ranks node → slice_index ranks node + 1 ≡ length ranks
rank_of_highest ranks node are there is = elim (cases_lt (slice_index ranks node + 1) (length ranks)) [
  | inl more ↦
      let next = rank_there ranks (slice_index ranks node + 1) are more in
      absurd (omega (arith, next.rank_is, is next.node next.there))
  | inr most ↦ omega (arith, most, are.within node there)
]

-- ---- the walk up

-- the nodes up to one that is next, which has their number as its rank, or all of them
pub record IsListed (ranks nodes : List ℕ) (next : Option ℕ) : Type 0 where
  pub inside : (k : ℕ) → k < length nodes → slice_index nodes k < length ranks
  pub there : (k : ℕ) → k < length nodes → slice_index ranks (slice_index nodes k) ≡ k
  pub node : (n : ℕ) → next ≡ Some n → (n < length ranks) × (slice_index ranks n ≡ length nodes)
  pub over : next ≡ None → length ranks ≡ length nodes

pub none_listed : (ranks : List ℕ) (next : Option ℕ) → ((n : ℕ) → next ≡ Some n → (n < length ranks) × (slice_index ranks n ≡ 0)) → (next ≡ None → length ranks ≡ 0)
    → IsListed ranks [] next
none_listed ranks next some none = record { inside = λ k within. absurd (omega (arith, within)); there = λ k within. absurd (omega (arith, within)); node = some; over = none }

pub one_listed : (ranks nodes : List ℕ) (node : ℕ) (next : Option ℕ) → IsListed ranks nodes (Some node)
    → ((n : ℕ) → next ≡ Some n → (n < length ranks) × (slice_index ranks n ≡ length nodes + 1)) → (next ≡ None → length ranks ≡ length nodes + 1)
    → IsListed ranks (nodes ++ node ∷ []) next
one_listed ranks nodes node next is some none =
    let long : length (nodes ++ node ∷ []) ≡ length nodes + 1 = length_push nodes node in
    record {
      inside = λ k within. elim (decide_eq k (length nodes)) [
        | inl last ↦ omega (arith, at_last nodes node k last, (is.node node refl).0)
        | inr other ↦
            let early : k < length nodes = omega (arith, within, long, other) in
            omega (arith, at_front nodes node k early, is.inside k early)
      ];
      there = λ k within. elim (decide_eq k (length nodes)) [
        | inl last ↦ ap (λ z. slice_index ranks z) (at_last nodes node k last) ∙ (is.node node refl).1 ∙ sym last
        | inr other ↦
            let early : k < length nodes = omega (arith, within, long, other) in
            ap (λ z. slice_index ranks z) (at_front nodes node k early) ∙ is.there k early
      ];
      node = λ n next_is. ((some n next_is).0, omega (arith, (some n next_is).1, long));
      over = λ next_is. omega (arith, none next_is, long);
    }

pub list_begun : (ranks : List ℕ) (next : Option ℕ) → AreRanks ranks → IfSome next (IsLowest ranks) → IfNone next (length ranks ≡ 0) → IsListed ranks [] next
list_begun ranks next are some none = none_listed ranks next
    (λ n is. let low : IsLowest ranks n = subst (λ o. IfSome o (IsLowest ranks)) is some in (low.there, rank_of_lowest ranks n are low))
    (λ is. subst (λ o. IfNone o (length ranks ≡ 0)) is none)

pub list_turned : (ranks nodes : List ℕ) (node : ℕ) (next : Option ℕ) → AreRanks ranks → IsListed ranks nodes (Some node) → IfSome next (IsNextAbove ranks node)
    → IfNone next (IsHighest ranks node) → IsListed ranks (nodes ++ node ∷ []) next
list_turned ranks nodes node next are is some none =
    let at = is.node node refl in
    one_listed ranks nodes node next is
    (λ n next_is.
    let up : IsNextAbove ranks node n = subst (λ o. IfSome o (IsNextAbove ranks node)) next_is some in
    (up.there, omega (arith, rank_of_next ranks node n are up, at.1)))
    (λ next_is. omega (arith, rank_of_highest ranks node are at.0 (subst (λ o. IfNone o (IsHighest ranks node)) next_is none), at.1))

pub listed_all : (ranks nodes : List ℕ) → IsListed ranks nodes None → IsInverse nodes ranks
listed_all ranks nodes is = record { long = is.over refl; within = is.inside; rank_of_node = is.there }

-- ---- the order of a list

-- the first so many nodes stand in their order
pub record AreArranged (nodes ranks : List ℕ) (count : ℕ) : Type 0 where
  pub long : length ranks ≡ length nodes
  pub ranked : AreRanks ranks
  pub rising : (i j : ℕ) → i < j → j < count → slice_index ranks (slice_index nodes i) < slice_index ranks (slice_index nodes j)

pub arranged_few : (nodes ranks : List ℕ) (count : ℕ) → count ≤ 1 → length ranks ≡ length nodes → AreRanks ranks → AreArranged nodes ranks count
arranged_few nodes ranks count most long are = record { long = long; ranked = are; rising = λ i j before below. absurd (omega (arith, before, below, most)) }

pub arranged_more : (nodes old new : List ℕ) (count node last : ℕ) → HasEach nodes → 0 < count → count < length nodes → node ≡ slice_index nodes count
    → last ≡ slice_index nodes (count - 1) → MovesAbove node last old new → AreRanks new → AreArranged nodes old count → AreArranged nodes new (count + 1)
arranged_more nodes old new count node last each some more node_is last_is moves are is =
    let there : (k : ℕ) → k < length nodes → slice_index nodes k < length old = λ k within. omega (arith, each.within k within, is.long) in
    let apart : (k : ℕ) → k < count → slice_index nodes k ≢ node = λ k below same. each.once k count below more (same ∙ node_is) in
    record {
      long = moves.keeps.count ∙ is.long;
      ranked = are;
      rising = λ i j before below. elim (decide_eq j count) [
        | inl now ↦
            let i_below : i < count = omega (arith, before, now) in
            let most : slice_index old (slice_index nodes i) ≤ slice_index old last = elim (decide_eq i (count - 1)) [
              | inl one ↦ let same : slice_index nodes i ≡ last = ap (λ k. slice_index nodes k) one ∙ sym last_is in omega (arith, ap (λ z. slice_index old z) same)
              | inr other ↦
                  let less = is.rising i (count - 1) (omega (arith, other, i_below)) (omega (arith, some)) in
                  omega (arith, less, ap (λ z. slice_index old z) last_is)
            ] in
            let over = moves.over (slice_index nodes i) (there i (omega (arith, i_below, more))) (apart i i_below) most in
            let at : slice_index nodes j ≡ node = ap (λ k. slice_index nodes k) now ∙ sym node_is in
            omega (arith, over, ap (λ z. slice_index new z) at)
        | inr other ↦
            let j_below : j < count = omega (arith, below, other) in
            let i_below : i < count = omega (arith, before, j_below) in
            moves.keeps.others (slice_index nodes i) (slice_index nodes j) (there i (omega (arith, i_below, more))) (there j (omega (arith, j_below, more)))
            (apart i i_below) (apart j j_below) (is.rising i j before j_below)
      ];
    }

rank_from : (nodes ranks : List ℕ) → AreArranged nodes ranks (length nodes) → (r : ℕ) → r < length nodes → r ≤ slice_index ranks (slice_index nodes r)
rank_from nodes ranks is zero there = omega arith
rank_from nodes ranks is (suc r) there =
    let before = rank_from nodes ranks is r (omega (arith, there)) in
    let less = is.rising r (suc r) (omega arith) there in
    omega (arith, before, less)

rank_to : (nodes ranks : List ℕ) → HasEach nodes → AreArranged nodes ranks (length nodes) → (d r : ℕ) → r + d + 1 ≡ length nodes → slice_index ranks (slice_index nodes r) + d < length nodes
rank_to nodes ranks each is zero r at =
    let there = each.within r (omega (arith, at)) in
    omega (arith, is.ranked.within (slice_index nodes r) (omega (arith, there, is.long)), is.long)
rank_to nodes ranks each is (suc d) r at =
    let behind : slice_index ranks (slice_index nodes (r + 1)) + d < length nodes = rank_to nodes ranks each is d (r + 1) (omega (arith, at)) in
    let less = is.rising r (r + 1) (omega arith) (omega (arith, at)) in
    omega (arith, behind, less)

pub arranged_all : (nodes ranks : List ℕ) → HasEach nodes → AreArranged nodes ranks (length nodes) → IsInverse nodes ranks
arranged_all nodes ranks each is = record {
  long = is.long;
  within = λ r there. omega (arith, each.within r there, is.long);
  rank_of_node = λ r there.
      let low = rank_from nodes ranks is r there in
      let high = rank_to nodes ranks each is (length nodes - (r + 1)) r (omega (arith, there)) in
      omega (arith, low, high, there);
}
