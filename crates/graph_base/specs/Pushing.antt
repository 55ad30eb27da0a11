-- A new last position: its label is above all others but that of the end, which keep their order.
use Rattle.std.specs.Prelude.{◌≡◌, ℕ, ◌+◌, ◌<◌, ◌↔◌, List, length, slice_index}
use Rattle.graph_base.specs.Ring.{IsPosition}

pub record AddsLast (old new : List ℕ) : Type 0 where
  pub long : length new ≡ length old + 1
  pub order : (p q : ℕ) → p < length old → q < length old
      → (slice_index new p < slice_index new q) ↔ (slice_index old p < slice_index old q)
  pub highest : (p : ℕ) → IsPosition old p → slice_index new p < slice_index new (length old)
  pub below_end : slice_index new (length old) < slice_index new 0
