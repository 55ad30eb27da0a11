-- Labels change and their order does not.
use Rattle.std.specs.Prelude.{◌≡◌, ℕ, zero, suc, ◌+◌, ◌*◌, ◌<◌, ◌≤◌, ◌^◌, List, length, slice_index}
use Rattle.graph_base.specs.Ring.{IsPosition, lower}

-- the position so many steps on from one
abbrev pub follow : List ℕ → ℕ → ℕ → ℕ
follow next zero p = p
follow next (suc k) p = slice_index next (follow next k p)

-- the lowest position from a label on
pub record IsFirstFrom (labels : List ℕ) (low first : ℕ) : Type 0 where
  pub position : IsPosition labels first
  pub from : low ≤ slice_index labels first
  pub least : (p : ℕ) → p < length labels → low ≤ slice_index labels p
      → slice_index labels first ≤ slice_index labels p

-- so many positions follow one another, from one on, before a label
pub record HasRun (labels next : List ℕ) (first high count : ℕ) : Type 0 where
  pub inside : (k : ℕ) → k < count → slice_index labels (follow next k first) < high
  pub ends : high ≤ slice_index labels (follow next count first)
  pub few : count ≤ length labels

-- all labels from one up to another can be spread over what lies between
pub record SpreadFits (labels next : List ℕ) (first count low step : ℕ) : Type 0 where
  pub starts : IsFirstFrom labels low first
  pub high : ℕ
  pub top : high ≤ 2 ^ 63
  pub run : HasRun labels next first high count
  pub rising : 0 < step
  pub within : low + step * (count + 1) ≤ high

-- other labels in the same order
pub record KeepsOrder (old new : List ℕ) : Type 0 where
  pub long : length new ≡ length old
  pub top : slice_index new 0 ≡ slice_index old 0
  pub below : (p : ℕ) → IsPosition old p → slice_index new p < 2 ^ 63
  pub positive : (p : ℕ) → p < length old → 0 < slice_index new p
  pub less : (p q : ℕ) → p < length old → q < length old → slice_index old p < slice_index old q
      → slice_index new p < slice_index new q

-- labels from one up to that of a position are a step apart, the first of them from the one below
pub record AreStepsApart (old new : List ℕ) (last count low step : ℕ) : Type 0 where
  pub first : (p : ℕ) → p < length old → low ≤ slice_index old p → slice_index old p < slice_index old last
      → low + step ≤ slice_index new p
  pub most : (p : ℕ) → p < length old → low ≤ slice_index old p → slice_index old p < slice_index old last
      → slice_index new p ≤ low + step * count
  pub apart : (p q : ℕ) → p < length old → q < length old → low ≤ slice_index old p
      → slice_index old p < slice_index old q
      → slice_index old q < slice_index old last → slice_index new p + step ≤ slice_index new q

-- between each label and the one before it is room for one
abbrev pub HasGaps : List ℕ → List ℕ → Type 0
HasGaps prev labels =
    (p : ℕ) → p < length labels → lower labels (slice_index prev p) + 2 ≤ slice_index labels p
