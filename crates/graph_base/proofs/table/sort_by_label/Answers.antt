use Rattle.std.proofs.Common.{get_or, ◌+◌, rules}
use Rattle.std.proofs.lemmas.List.Sorted.{IsNonDecreasingBy-from_sort_by_key}
use Rattle.graph_base.proofs.table.sort_by_label.Goals as goal

pub returns-clause-sorted : goal.returns-clause-sorted
returns-clause-sorted c =
    IsNonDecreasingBy-from_sort_by_key (λ n. get_or c.args.labels.now (n + 1) 0) _ c.sort_unstable_by_key.ensures.sorted (λ a r q k. search rules)
