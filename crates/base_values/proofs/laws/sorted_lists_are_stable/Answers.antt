use Rattle.base_values.proofs.InOrder.{length-sorted, sorted-IsPermutation, sorted-IsSorted, sorted-IsStable}
use Rattle.base_values.proofs.laws.sorted_lists_are_stable.Goals as goal

pub returns-clause-length : goal.returns-clause-length
returns-clause-length g c = length-sorted

pub returns-clause-same_items : goal.returns-clause-same_items
returns-clause-same_items g c = sorted-IsPermutation

pub returns-clause-in_order : goal.returns-clause-in_order
returns-clause-in_order g c cmp total = sorted-IsSorted total

pub returns-clause-stable : goal.returns-clause-stable
returns-clause-stable g c cmp total = sorted-IsStable total
