-- The roots of one kind by their texts, each text with the least set that has a root of it, and the longest
-- prefix of a text, of those that are tried, that stands among them.
-- From the documentation of the file system's partition into sets.
use Rattle.std.specs.Prelude.{◌≡◌, ◌<◌, ◌&&◌, ℕ, Bool, true, false, List, [], ◌∷◌, Option, None, Some, Contains, length, max, take, if◌then◌else◌}
use Rattle.std.specs.Bool.{beq}
use Rattle.std.specs.List.{list_any, position_from}
use Rattle.std.specs.Map.{lookup}
use Rattle.std.specs.Str.{bytes_eq}
use Rattle.std.specs.declared.vec.Vec.{Vec}
use Rattle.vfs_core.specs.VfsPath.{PathContent}
use Rattle.base_text_outside.specs.Causes.{raised_by}
use Rattle.vfs_sets.specs.Probes.{prefixes_tried, tries_down_to}

-- whether a root is of a kind and has a text
abbrev pub is_root_of : Bool → List ℕ → PathContent → Bool
is_root_of kind text root = beq root.is_virtual kind && bytes_eq text root.text

-- the first set with a root of a kind and a text, or none
abbrev pub first_set_of : Bool → List ℕ → List (List PathContent) → Option ℕ
first_set_of kind text sets = position_from (list_any (is_root_of kind text)) 0 sets

-- the number that stands beside a text, or none
abbrev pub number_by_text : {Z : Type 0} → List ℕ → List (Vec ℕ Z × ℕ) → Option ℕ
number_by_text text entries = lookup (λ key. bytes_eq text key.items) entries

-- the length of the longest text of some roots, and 0 for no root
abbrev pub longest_text : List PathContent → ℕ
longest_text [] = 0
longest_text (root ∷ roots) = max (length root.text) (longest_text roots)

-- the same of all sets
abbrev pub longest_text_of_all : List (List PathContent) → ℕ
longest_text_of_all [] = 0
longest_text_of_all (roots ∷ sets) = max (longest_text roots) (longest_text_of_all sets)

-- no number stands beside a text of more bytes
abbrev pub HasTextsUpTo : {Z : Type 0} → ℕ → List (Vec ℕ Z × ℕ) → Type 0
HasTextsUpTo longest entries = (text : List ℕ) → longest < length text → number_by_text text entries ≡ None

-- beside each text stands the first set with a root of the kind and that text, where there is one
pub record MapsRoots {Z : Type 0} (kind : Bool) (sets : List (List PathContent))
    (entries : List (Vec ℕ Z × ℕ)) : Type 0 where
  pub each : (text : List ℕ) → number_by_text text entries ≡ first_set_of kind text sets

-- the real and the virtual roots have each a map
pub record HasRootMaps {Z : Type 0} (sets : List (List PathContent))
    (real_roots virtual_roots : List (Vec ℕ Z × ℕ)) : Type 0 where
  pub real_are : MapsRoots false sets real_roots
  pub virtual_are : MapsRoots true sets virtual_roots

-- a set's number stands beside the text of a root, where that is of a kind, and beside each other text what
-- stood there
pub record PutsRoot {Z : Type 0} (kind : Bool) (root : PathContent) (number : ℕ)
    (old new : List (Vec ℕ Z × ℕ)) : Type 0 where
  pub each : (text : List ℕ)
      → number_by_text text new ≡ (if is_root_of kind text root then Some number else number_by_text text old)

-- the same of the roots of a set
pub record PutsRootsOf {Z : Type 0} (kind : Bool) (roots : List PathContent) (number : ℕ)
    (old new : List (Vec ℕ Z × ℕ)) : Type 0 where
  pub each : (text : List ℕ)
      → number_by_text text new
      ≡ (if list_any (is_root_of kind text) roots then Some number else number_by_text text old)

-- a number stands beside the longest prefix tried that has one, and each prefix down to that one was counted
pub record IsOfLongestPrefix {Z : Type 0} (entries : List (Vec ℕ Z × ℕ)) (text : List ℕ)
    (number before now : ℕ) : Type 0 where
  pub size : ℕ
  pub counts : now ≡ raised_by (tries_down_to size text) before
  pub tried : Contains (prefixes_tried text) size
  pub has : number_by_text (take size text) entries ≡ Some number
  pub none_longer : (longer : ℕ) → Contains (prefixes_tried text) longer → size < longer
      → number_by_text (take longer text) entries ≡ None

-- no prefix tried has a number, and each was counted
pub record HasNoPrefix {Z : Type 0} (entries : List (Vec ℕ Z × ℕ)) (text : List ℕ) (before now : ℕ)
    : Type 0 where
  pub counts : now ≡ raised_by (length (prefixes_tried text)) before
  pub none : (size : ℕ) → Contains (prefixes_tried text) size → number_by_text (take size text) entries ≡ None
