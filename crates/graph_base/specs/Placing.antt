-- A node goes directly before a mark: said of labels, whose order is all that counts.
use Rattle.std.specs.Prelude.{◌≡◌, ℕ, ◌<◌, ◌≤◌, ◌≢◌, List, length, slice_index}
use Rattle.graph_base.specs.Ring.{IsPosition, lower}

-- a label between that of a mark and of what comes before it, where the node does not stand
pub record FitsBefore (labels prev : List ℕ) (node mark label : ℕ) : Type 0 where
  pub stands : IsPosition labels node
  pub marked : mark < length labels
  pub apart : mark ≢ node
  pub elsewhere : slice_index prev mark ≢ node
  pub above : lower labels (slice_index prev mark) < label
  pub below : label < slice_index labels mark

-- the links are there
pub record CanRelink (next prev : List ℕ) (node mark : ℕ) : Type 0 where
  pub long : length prev ≡ length next
  pub stands : node < length next
  pub marked : mark < length next
  pub behind : slice_index prev node < length next
  pub ahead : slice_index next node < length next
  pub last : slice_index prev mark < length next

-- the node stands directly before the mark, and the others keep their order
pub record PutsBefore (node mark : ℕ) (old new : List ℕ) : Type 0 where
  pub long : length new ≡ length old
  pub others : (p q : ℕ) → p < length old → q < length old → p ≢ node → q ≢ node
      → slice_index old p < slice_index old q
      → slice_index new p < slice_index new q
  pub over : (p : ℕ) → IsPosition old p → p ≢ node → slice_index old p < slice_index old mark
      → slice_index new p < slice_index new node
  pub under : (p : ℕ) → p < length old → p ≢ node → slice_index old mark ≤ slice_index old p
      → slice_index new node < slice_index new p
