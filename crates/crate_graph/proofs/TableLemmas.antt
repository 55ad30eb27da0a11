-- What a table of ranks says of the order that it keeps.
use Rattle.std.proofs.Common.{◌≡◌, ℕ, ◌+◌, ◌<◌, ◌≤◌, ◌≢◌, ◌^◌, Bool, true, false, Result, Ok, Err, List, [], ◌∷◌, ◌++◌, length, get_or, refl, sym, ap, ◌∙◌, subst, arith}
use Rattle.std.specs.Prelude.{OnErr, OnOk, slice_index}
use Rattle.std.specs.List.{All, AllPairs}
use Rattle.std.proofs.lemmas.Bool.{false≢true}
use Rattle.std.proofs.lemmas.List.{get_or_default, length_push}
use Rattle.graph_base.specs.Blocks.{AreInRankOrder, FitAbove, FitBelow, RearrangesAbove, RearrangesBelow}
use Rattle.graph_base.specs.Listing.{HasEach, IsInverse}
use Rattle.graph_base.specs.Ranks.{AreRanks, with_next_rank}
use Rattle.crate_graph.specs.Order.{AreKeptRanks, IsOrder, Ranking, ranking, with_next_node}
use Rattle.crate_graph.specs.Placing.{FitsOrder, Placement, Rearranges}
use Rattle.crate_graph.specs.Suborder.{HasEachOnce}
use Rattle.crate_graph.proofs.RankingLemmas.{length-ranking, ranking_is_order, ranking_next}
use Rattle.graph_base.proofs.ListingLemmas.{few}

pub none_kept : AreKeptRanks []
none_kept = record {
  ranked = record { within = λ n there. absurd (omega (arith, there)); once = λ m n there _ same. absurd (omega (arith, there)) };
  short = omega arith;
}

module _ (ranks : List ℕ) (order : Ranking) (view : ranking ranks ≡ order) (kept : AreKeptRanks ranks) where
  pub is_order : IsOrder order
  is_order = subst IsOrder view (ranking_is_order ranks kept.ranked kept.short)

  pub node_count : length order.nodes ≡ length ranks
  node_count = ap (λ (o : Ranking). length o.nodes) (sym view) ∙ length-ranking ranks kept.ranked

  pub same_ranks : order.ranks ≡ ranks
  same_ranks = ap (λ (o : Ranking). o.ranks) (sym view)

  fits : (p : Placement) → FitsOrder p order → FitsOrder p (ranking ranks)
  fits p is = subst (FitsOrder p) (sym view) is

  pub fits_below : (p : Placement) → FitsOrder p order → p.above ≡ false → FitBelow p.mark p.nodes ranks
  fits_below p is side = (fits p is).below side

  pub fits_above : (p : Placement) → FitsOrder p order → p.above ≡ true → FitAbove p.mark p.nodes ranks
  fits_above p is side = (fits p is).above side

  -- nodes that are listed are fewer than 2^32
  pub listed_short : (nodes : List ℕ) → AreInRankOrder nodes ranks → length nodes < 2 ^ 32
  listed_short nodes is =
      let once : AllPairs (λ m n. m ≢ n) nodes = λ i j d before within same.
      let one : get_or nodes i 0 ≡ get_or nodes j 0 = get_or_default nodes i 0 d (omega (arith, before, within)) ∙ same ∙ get_or_default nodes j d 0 within in
      omega (arith, is.ascending i j before within, ap (λ z. get_or ranks z 0) one) in
      let inside : All (λ n. n < length ranks) nodes = λ k d within. subst (λ n. n < length ranks) (get_or_default nodes k 0 d within) (is.within k within) in
      omega (arith, few nodes (length ranks) once inside, kept.short)

  module _ (p : Placement) (new : List ℕ) (are : AreRanks new) where
    pub moved_below : p.above ≡ false → RearrangesBelow p.mark p.nodes ranks new → Rearranges p order (ranking new)
    moved_below side r = subst (λ o. Rearranges p o (ranking new)) view (record {
      order = ranking_is_order new are (omega (arith, r.each.long, kept.short));
      count = length-ranking new are ∙ r.each.long ∙ sym (length-ranking ranks kept.ranked);
      below = λ _. r;
      above = λ is. absurd (false≢true (sym side ∙ is));
    })

    pub moved_above : p.above ≡ true → RearrangesAbove p.mark p.nodes ranks new → Rearranges p order (ranking new)
    moved_above side r = subst (λ o. Rearranges p o (ranking new)) view (record {
      order = ranking_is_order new are (omega (arith, r.each.long, kept.short));
      count = length-ranking new are ∙ r.each.long ∙ sym (length-ranking ranks kept.ranked);
      below = λ is. absurd (false≢true (sym is ∙ side));
      above = λ _. r;
    })

-- no placement fits an order of no nodes
pub fits_nothing : (p : Placement) (order : Ranking) → ranking [] ≡ order → FitsOrder p order → ⊥
fits_nothing p order view is = by p.above refl
  where
    by : (b : Bool) → p.above ≡ b → ⊥
    by true side = omega (arith, (fits_above [] order view none_kept p is side).marked)
    by false side = omega (arith, (fits_below [] order view none_kept p is side).marked)

-- a table that has one more node, or none more
pub pushed_kept : {T E : Type 0} (r : Result T E) (old new : List ℕ) → AreRanks new → length old + 1 < 2 ^ 32 → OnOk r (new ≡ with_next_rank old) → OnErr r (new ≡ old) → AreKeptRanks new
pushed_kept (Ok x) old new are short ok err = record { ranked = are; short = omega (arith, ap length ok, length_push old (length old), short) }
pushed_kept (Err e) old new are short ok err = record { ranked = are; short = omega (arith, ap length err, short) }

pub next_is : (old new : List ℕ) (order : Ranking) → ranking old ≡ order → AreKeptRanks old → AreRanks new → length old + 1 < 2 ^ 32 → new ≡ with_next_rank old
    → ranking new ≡ with_next_node order
next_is old new order view kept are short is =
    let next : AreRanks (old ++ length old ∷ []) = subst AreRanks is are in
    ap ranking is ∙ ranking_next old kept.ranked next short (omega (arith, length_push old (length old), short)) ∙ ap with_next_node view

pub pushed_ok : {T E : Type 0} (r : Result T E) (old new : List ℕ) (order : Ranking) → ranking old ≡ order → AreKeptRanks old → AreRanks new → length old + 1 < 2 ^ 32
    → OnOk r (new ≡ with_next_rank old) → OnOk r (ranking new ≡ with_next_node order)
pushed_ok (Ok x) old new order view kept are short ok = next_is old new order view kept are short ok
pushed_ok (Err e) old new order view kept are short ok = ok

pub pushed_err : {T E : Type 0} (r : Result T E) (old new : List ℕ) (order : Ranking) → ranking old ≡ order → OnErr r (new ≡ old) → OnErr r (ranking new ≡ order)
pushed_err (Ok x) old new order view err = err
pushed_err (Err e) old new order view err = ap ranking err ∙ view

-- a list with each number once, place by place
pub has_each : (nodes : List ℕ) → HasEachOnce nodes → HasEach nodes
has_each nodes is = record {
  within = λ k below. is.within k 0 below;
  once = λ j k before below. is.once j k 0 before below;
}

pub inverse_kept : (nodes ranks : List ℕ) → length nodes < 2 ^ 32 → AreRanks ranks → IsInverse nodes ranks → AreKeptRanks ranks
inverse_kept nodes ranks short are is = record { ranked = are; short = omega (arith, is.long, short) }
