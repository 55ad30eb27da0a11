-- The ranks with a new highest one.
use Rattle.std.proofs.Common.{◌≡◌, ℕ, zero, suc, ◌+◌, ◌-◌, ◌<◌, ◌≤◌, ◌⊎◌, inl, inr, Bool, true, false, cond, List, [], ◌∷◌, ◌++◌, drop, length, map, take, refl, sym, ap, ◌∙◌, arith, get_or}
use Rattle.std.specs.Prelude.{nat_lt, slice_index}
use Rattle.std.specs.List.{count_by}
use Rattle.std.proofs.Math.Seq.{take-length}
use Rattle.std.proofs.lemmas.Bool.{cases_order}
use Rattle.std.proofs.lemmas.Grind.{same_number_lists}
use Rattle.std.proofs.lemmas.List.{get_or-take, length-take}
use Rattle.std.proofs.lemmas.List.Sums.{count_by_more_no, count_by_more_yes}
use Rattle.graph_base.specs.Pushing.{AddsLast}
use Rattle.graph_base.specs.Ranks.{labels_below, ranks_of, with_next_rank}
use Rattle.graph_base.specs.Ring.{IsRising}
use Rattle.graph_base.proofs.PushingLemmas.{at_front, at_last, one_longer}
use Rattle.graph_base.proofs.RankLemmas.{count_cons, length-ranks, lt_no, lt_yes, rank_at, same_count}
use Rattle.graph_base.proofs.RingLemmas.{decide_eq}

pub less_or_not : (a b : ℕ) → (a < b) ⊎ (b ≤ a)
less_or_not a b = elim (cases_order a b) [
  | inl same ↦ inr (omega (arith, same))
  | inr apart ↦ elim apart [ inl less ↦ inl less | inr more ↦ inr (omega (arith, more)) ]
]

all_pass : (p : ℕ → Bool) (xs : List ℕ) → ((k : ℕ) → k < length xs → p (get_or xs k 0) ≡ true) → count_by p xs ≡ length xs
all_pass p [] all = refl
all_pass p (x ∷ xs) all =
    let one : ◌≡◌ {A = ℕ} (cond (p x) 1 0) 1 = ap (λ b. cond b 1 0) (all 0 (omega arith)) in
    let rest = all_pass p xs (λ k below. all (suc k) (omega (arith, below))) in
    omega (arith, one, rest, count_cons p x xs)

all_but_first : (p : ℕ → Bool) (xs : List ℕ) → 0 < length xs → p (get_or xs 0 0) ≡ false → ((k : ℕ) → 0 < k → k < length xs → p (get_or xs k 0) ≡ true) → count_by p xs + 1 ≡ length xs
all_but_first p [] some first others = absurd (omega (arith, some))
all_but_first p (x ∷ xs) some first others =
    let none : ◌≡◌ {A = ℕ} (cond (p x) 1 0) 0 = ap (λ b. cond b 1 0) first in
    let rest = all_pass p xs (λ k below. others (suc k) (omega arith) (omega (arith, below))) in
    omega (arith, none, rest, count_cons p x xs)

module _ (old new next : List ℕ) (rising : IsRising old next) (is : AddsLast old new) where
  front_long : length (take (length old) new) ≡ length old
  front_long = omega (arith, length-take (length old) new, is.long)

  front_at : (k : ℕ) → k < length old → get_or (take (length old) new) k 0 ≡ get_or new k 0
  front_at k below = get_or-take (length old) new k 0 below

  all_of : take (length old + 1) new ≡ new
  all_of = ap (λ k. take k new) (sym is.long) ∙ take-length new

  last_in : length old < length new
  last_in = omega (arith, is.long)

  -- an old label is as high as it was among the others, and the new one is above it
  rank_old : (n : ℕ) → n + 1 < length old → slice_index (ranks_of new) n ≡ slice_index (ranks_of old) n
  rank_old n n_in =
      let test : ℕ → Bool = λ l. nat_lt l (slice_index new (n + 1)) in
      let none : nat_lt (get_or new (length old) 0) (slice_index new (n + 1)) ≡ false =
      lt_no (get_or new (length old) 0) (slice_index new (n + 1)) (omega (arith, is.highest (n + 1) (omega arith, n_in))) in
      let front = count_by_more_no (λ l. nat_lt l (slice_index new (n + 1))) new (length old) 0 last_in none in
      let same : count_by (λ l. nat_lt l (slice_index new (n + 1))) (take (length old) new) ≡ count_by (λ l. nat_lt l (slice_index old (n + 1))) old =
      same_count (λ l. nat_lt l (slice_index new (n + 1))) (λ l. nat_lt l (slice_index old (n + 1))) (take (length old) new) old front_long (λ k below.
      let k_in : k < length old = omega (arith, below, front_long) in
      ap (λ z. nat_lt z (slice_index new (n + 1))) (front_at k k_in) ∙ agree k (n + 1) k_in n_in) in
      rank_at new n (omega (arith, n_in, is.long)) ∙ ap (λ xs. labels_below xs (slice_index new (n + 1))) (sym all_of) ∙ front ∙ same ∙ sym (rank_at old n n_in)
    where
      agree : (k m : ℕ) → k < length old → m < length old → nat_lt (slice_index new k) (slice_index new m) ≡ nat_lt (slice_index old k) (slice_index old m)
      agree k m k_in m_in = elim (less_or_not (slice_index old k) (slice_index old m)) [
        | inl less ↦ lt_yes (slice_index new k) (slice_index new m) ((is.order k m k_in m_in).1 less) ∙ sym (lt_yes (slice_index old k) (slice_index old m) less)
        | inr more ↦
            let not_less : slice_index new m ≤ slice_index new k = elim (less_or_not (slice_index new k) (slice_index new m)) [
              | inl less ↦ absurd (omega (arith, more, (is.order k m k_in m_in).0 less))
              | inr most ↦ most
            ] in
            lt_no (slice_index new k) (slice_index new m) not_less ∙ sym (lt_no (slice_index old k) (slice_index old m) more)
      ]

  rank_new : (n : ℕ) → n + 1 ≡ length old → slice_index (ranks_of new) n + 1 ≡ length old
  rank_new n n_is =
      let top = slice_index new (n + 1) in
      let place : slice_index new (n + 1) ≡ slice_index new (length old) = ap (λ k. slice_index new k) n_is in
      let none : nat_lt (get_or new (length old) 0) (slice_index new (n + 1)) ≡ false = lt_no (get_or new (length old) 0) (slice_index new (n + 1)) (omega (arith, place)) in
      let front = count_by_more_no (λ l. nat_lt l (slice_index new (n + 1))) new (length old) 0 last_in none in
      let whole : labels_below new (slice_index new (n + 1)) ≡ count_by (λ l. nat_lt l (slice_index new (n + 1))) (take (length old) new) =
      ap (λ xs. labels_below xs (slice_index new (n + 1))) (sym all_of) ∙ front in
      let first : nat_lt (get_or (take (length old) new) 0 0) (slice_index new (n + 1)) ≡ false =
      lt_no (get_or (take (length old) new) 0 0) (slice_index new (n + 1)) (omega (arith, front_at 0 rising.some, place, is.below_end)) in
      let others = all_but_first (λ l. nat_lt l (slice_index new (n + 1))) (take (length old) new) (omega (arith, front_long, rising.some)) first (λ k some below.
      let k_in : k < length old = omega (arith, below, front_long) in
      lt_yes (get_or (take (length old) new) k 0) (slice_index new (n + 1)) (omega (arith, front_at k k_in, place, is.highest k (some, k_in)))) in
      omega (arith, rank_at new n (omega (arith, n_is, is.long)), whole, others, front_long)

  pub next_ranks : ranks_of new ≡ with_next_rank (ranks_of old)
  next_ranks =
      let long : length (ranks_of new) ≡ length (with_next_rank (ranks_of old)) =
      omega (arith, length-ranks new, length-ranks old, is.long, rising.some, one_longer (ranks_of old) (length (ranks_of old))) in
      same_number_lists (ranks_of new) (with_next_rank (ranks_of old)) long (λ n there.
      elim (less_or_not (n + 1) (length old)) [
        | inl less ↦ rank_old n less ∙ sym (at_front (ranks_of old) (length (ranks_of old)) n (omega (arith, less, length-ranks old)))
        | inr more ↦
            let n_is : n + 1 ≡ length old = omega (arith, more, there, length-ranks new, is.long) in
            let rank : slice_index (ranks_of new) n ≡ length (ranks_of old) = omega (arith, rank_new n n_is, length-ranks old) in
            rank ∙ sym (at_last (ranks_of old) (length (ranks_of old)) n (omega (arith, n_is, length-ranks old)))
      ])
