-- A walk up from one node to another, which lists what has no mark.
use Rattle.std.proofs.Common.{◌≡◌, ℕ, ◌+◌, ◌<◌, ◌≤◌, ◌≢◌, ◌⊎◌, inl, inr, Bool, true, false, List, [], ◌∷◌, ◌++◌, length, get_or, refl, sym, ap, ◌∙◌, subst, arith}
use Rattle.std.proofs.lemmas.Bool.{cases_eq, cases_lt, false≢true}
use Rattle.std.proofs.lemmas.List.{length_push}
use Rattle.graph_base.proofs.MarkLemmas.{pushed_old}
use Rattle.graph_base.specs.Ranks.{AreRanks, IsNextAbove}
use Rattle.graph_base.proofs.PushingLemmas.{at_last}
use Rattle.crate_graph.specs.Walking.{AreUnmarked}

-- the walk has come to a node, and lists the nodes below it from `from` on
pub record IsWalked (marks : List Bool) (ranks : List ℕ) (from to node : ℕ) (nodes : List ℕ) : Type 0 where
  pub node_in : node < length ranks
  pub under : get_or ranks node 0 ≤ get_or ranks to 0
  pub listed : AreUnmarked marks ranks from node nodes

pub walk_begun : (marks : List Bool) (ranks : List ℕ) (from to : ℕ) → from < length ranks → get_or ranks from 0 ≤ get_or ranks to 0 → IsWalked marks ranks from to from []
walk_begun marks ranks from to from_in up = record {
  node_in = from_in;
  under = up;
  listed = record {
    there = λ k within. absurd (omega (arith, within));
    unmarked = λ k within. absurd (omega (arith, within));
    from_low = λ k within. absurd (omega (arith, within));
    under = λ k within. absurd (omega (arith, within));
    ascending = λ j k before within. absurd (omega (arith, within));
    all = λ n there low under off. absurd (omega (arith, low, under));
  };
}

module _ (marks : List Bool) (ranks : List ℕ) (from to node above : ℕ) (nodes : List ℕ) (are : AreRanks ranks) (up : get_or ranks from 0 ≤ get_or ranks node 0) (to_in : to < length ranks)
    (further : node ≢ to) (walked : IsWalked marks ranks from to node nodes) (next : IsNextAbove ranks node above) where
  below_to : get_or ranks node 0 < get_or ranks to 0
  below_to = elim (cases_lt (get_or ranks node 0) (get_or ranks to 0)) [
    | inl less ↦ less
    | inr level ↦ absurd (further (are.once node to walked.node_in to_in (omega (arith, level, walked.under))))
  ]

  pub above_under : get_or ranks above 0 ≤ get_or ranks to 0
  above_under = next.least to to_in below_to

  -- below the next node is the node itself, or what is below it
  nearer : (n : ℕ) → n < length ranks → get_or ranks n 0 < get_or ranks above 0 → (n ≡ node) ⊎ (get_or ranks n 0 < get_or ranks node 0)
  nearer n there less = elim (cases_lt (get_or ranks n 0) (get_or ranks node 0)) [
    | inl below ↦ inr below
    | inr from_node ↦ elim (cases_lt (get_or ranks node 0) (get_or ranks n 0)) [
      | inl higher ↦ absurd (omega (arith, less, next.least n there higher))
      | inr level ↦ inl (are.once n node there walked.node_in (omega (arith, from_node, level)))
    ]
  ]

  pub walk_past : get_or marks node false ≡ true → IsWalked marks ranks from to above nodes
  walk_past on = record {
    node_in = next.there;
    under = above_under;
    listed = record {
      there = walked.listed.there;
      unmarked = walked.listed.unmarked;
      from_low = walked.listed.from_low;
      under = λ k within. omega (arith, walked.listed.under k within, next.higher);
      ascending = walked.listed.ascending;
      all = λ n there low less off. elim (nearer n there less) [
        | inl same ↦ absurd (false≢true (sym off ∙ subst (λ z. get_or marks z false ≡ true) (sym same) on))
        | inr below ↦ walked.listed.all n there low below off
      ];
    };
  }

  pub walk_over : get_or marks node false ≡ false → IsWalked marks ranks from to above (nodes ++ node ∷ [])
  walk_over off_node =
      let long : length (nodes ++ node ∷ []) ≡ length nodes + 1 = length_push nodes node in
      let old : (k : ℕ) → k < length nodes → get_or (nodes ++ node ∷ []) k 0 ≡ get_or nodes k 0 = λ k early. pushed_old nodes node k early in
      let last : (k : ℕ) → k ≡ length nodes → get_or (nodes ++ node ∷ []) k 0 ≡ node = λ k at. at_last nodes node k at in
      let each : (P : ℕ → Type 0) → ((k : ℕ) → k < length nodes → P (get_or nodes k 0)) → P node → (k : ℕ) → k < length (nodes ++ node ∷ []) → P (get_or (nodes ++ node ∷ []) k 0) =
      λ P all one k within. elim (cases_eq k (length nodes)) [
        | inl now ↦ subst P (sym (last k now)) one
        | inr other ↦ let early : k < length nodes = omega (arith, within, long, other) in subst P (sym (old k early)) (all k early)
      ] in
      record {
        node_in = next.there;
        under = above_under;
        listed = record {
          there = each (λ n. n < length ranks) walked.listed.there walked.node_in;
          unmarked = each (λ n. get_or marks n false ≡ false) walked.listed.unmarked off_node;
          from_low = each (λ n. get_or ranks from 0 ≤ get_or ranks n 0) walked.listed.from_low up;
          under = each (λ n. get_or ranks n 0 < get_or ranks above 0) (λ k early. omega (arith, walked.listed.under k early, next.higher)) next.higher;
          ascending = λ j k before within. elim (cases_eq k (length nodes)) [
            | inl now ↦
                let early : j < length nodes = omega (arith, before, now) in
                omega (arith, ap (λ z. get_or ranks z 0) (last k now), ap (λ z. get_or ranks z 0) (old j early), walked.listed.under j early)
            | inr other ↦
                let k_early : k < length nodes = omega (arith, within, long, other) in
                let j_early : j < length nodes = omega (arith, before, k_early) in
                omega (arith, ap (λ z. get_or ranks z 0) (old k k_early), ap (λ z. get_or ranks z 0) (old j j_early), walked.listed.ascending j k before k_early)
          ];
          all = λ n there low less off. elim (nearer n there less) [
            | inl same ↦ (length nodes, omega (arith, long), last (length nodes) refl ∙ sym same)
            | inr below ↦
                let k = walked.listed.all n there low below off in
                (k.0, omega (arith, k.1, long), old k.0 k.1 ∙ k.2)
          ];
        };
      }
