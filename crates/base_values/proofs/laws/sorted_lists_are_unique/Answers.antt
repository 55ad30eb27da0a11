use Rattle.base_values.proofs.InOrder.{sorted-of_sorted, sorted-permutation, sorted-unique}
use Rattle.base_values.proofs.laws.sorted_lists_are_unique.Goals as goal

pub returns-clause-unique : goal.returns-clause-unique
returns-clause-unique g c cmp total = sorted-unique total

pub returns-clause-again : goal.returns-clause-again
returns-clause-again g c cmp total = sorted-of_sorted total

pub returns-clause-any_order : goal.returns-clause-any_order
returns-clause-any_order g c cmp total = sorted-permutation total
