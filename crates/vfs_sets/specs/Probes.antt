-- How often a count is raised while paths are placed: once for each prefix of the text by which a path is
-- placed that is tried, down to the longest root that fits, or through all of them where none does.
use Rattle.std.specs.Prelude.{◌≡◌, ◌≤◌, ◌+◌, ◌*◌, ℕ, zero, suc, List, [], ◌∷◌, ◌++◌, length, min, nat_le, take}
use Rattle.std.specs.List.{count_by, filter}
use Rattle.base_text_outside.specs.Causes.{raised_by}
use Rattle.base_text_paths.specs.Paths.{is_slash}
use Rattle.vfs_core.specs.VfsPath.{PathContent}
use Rattle.vfs_sets.specs.Placement.{FitsNoRoot, IsFit, begins_text, placed_text}

-- a count was raised, and at most so often
pub record RaisesAtMost (most before now : ℕ) : Type 0 where
  pub steps : ℕ
  pub within : steps ≤ most
  pub raised : now ≡ raised_by steps before

-- a number and all below it, the greatest first
abbrev pub numbers_down : ℕ → List ℕ
numbers_down zero = 0 ∷ []
numbers_down (suc number) = suc number ∷ numbers_down number

-- the lengths of the prefixes of a text that are tried: of those that begin it by whole components, the
-- longest first
abbrev pub prefixes_tried : List ℕ → List ℕ
prefixes_tried text = filter (λ size. begins_text (take size text) text) (numbers_down (length text))

-- the most prefixes of a text that are tried: at most one more than it has bytes, and at most one more than
-- twice its slashes
abbrev pub most_tries : List ℕ → ℕ
most_tries text = min (length text + 1) (2 * count_by is_slash text + 1)

-- how many prefixes of a text are tried, where none shorter than a length is
abbrev pub tries_down_to : ℕ → List ℕ → ℕ
tries_down_to size text = length (filter (nat_le size) (prefixes_tried text))

-- a root of a set fits a path, and none that fits is longer
pub record IsLongestFit (sets : List (List PathContent)) (path : PathContent) (number : ℕ)
    (root : PathContent) : Type 0 where
  pub own : IsFit sets path number root
  pub longest : (other : ℕ) (rival : PathContent)
      → IsFit sets path other rival → length rival.text ≤ length root.text

-- a path was placed: each probe was counted
pub record CountsProbes (sets : List (List PathContent)) (path : PathContent) (before now : ℕ) : Type 0 where
  pub found : (number : ℕ) (root : PathContent) → IsLongestFit sets path number root
      → now ≡ raised_by (tries_down_to (length root.text) (placed_text path)) before
  pub none : FitsNoRoot sets path → now ≡ raised_by (length (prefixes_tried (placed_text path))) before
  pub at_most : now ≤ before + most_tries (placed_text path)
  pub raises : RaisesAtMost (most_tries (placed_text path)) before now

-- files were placed, one after the other
abbrev pub CountsFiles : List (List PathContent) → List (ℕ × PathContent) → ℕ → ℕ → Type 0
CountsFiles sets [] before now = before ≡ now
CountsFiles sets (file ∷ files) before now =
    (middle : ℕ) × CountsProbes sets file.1 before middle × CountsFiles sets files middle now

-- at most so many probes are counted: for each file the most prefixes of its text that are tried
abbrev pub most_probes : List (ℕ × PathContent) → ℕ
most_probes [] = 0
most_probes (file ∷ files) = most_tries (placed_text file.1) + most_probes files

-- files were placed, and each probe was counted
pub record CountsPlacing (sets : List (List PathContent)) (files : List (ℕ × PathContent)) (before now : ℕ)
    : Type 0 where
  pub each : CountsFiles sets files before now
  pub at_most : now ≤ before + most_probes files

-- the first of some files were placed, up to one of them, and each probe was counted
pub record CountsFront (sets : List (List PathContent)) (files : List (ℕ × PathContent)) (before now : ℕ)
    : Type 0 where
  pub placed : List (ℕ × PathContent)
  pub left : List (ℕ × PathContent)
  pub all : placed ++ left ≡ files
  pub each : CountsFiles sets placed before now
