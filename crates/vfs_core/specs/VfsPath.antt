-- What contracts see of a path of the file system: whether it is virtual, and its text.
use Rattle.std.specs.Prelude.{◌≡◌, ℕ, Bool, true, false, ◌&&◌, List, [], Option, Some, nat_eq, if◌then◌else◌}
use Rattle.std.specs.Bool.{beq}
use Rattle.std.specs.Option.{option_map}
use Rattle.std.specs.declared.cmp.Ordering.{Ordering}
use Rattle.std.specs.Ordering.{bool_cmp, eq_of_both, nat_cmp, on, then_cmp}
use Rattle.std.specs.Cmp.Lexicographic.{pointwise, slice_cmp}
use Rattle.base_text_paths.specs.Paths.{components, parent_text, without_last}
use Rattle.vfs_core.specs.RealPath.{is_text_prefix, real_joined_text}
use Rattle.vfs_core.specs.VirtualPath.{virtual_parent, virtual_joined}
use Rattle.vfs_core.specs.declared.vfs_path.repr.VfsPathRepr.{VfsPathRepr}
use Rattle.vfs_core.specs.declared.vfs_path.repr.VfsPathRepr.TheVariants.{Real, Virtual}

-- the content of a path: a real one has the text of a normal absolute path
pub record PathContent : Type 0 where
  pub is_virtual : Bool
  pub text : List ℕ

-- paths are equal where both parts are
abbrev pub vfs_path_eq : PathContent → PathContent → Bool
vfs_path_eq = eq_of_both (on (λ p. p.is_virtual) beq) (on (λ p. p.text) (pointwise nat_eq))

-- the components of a real path, and none of a virtual one
abbrev pub real_parts : PathContent → List (List ℕ)
real_parts path = if path.is_virtual then [] else components path.text

-- real paths come first; among them components decide, and else the bytes of the texts
abbrev pub vfs_path_cmp : PathContent → PathContent → Ordering
vfs_path_cmp = then_cmp (on (λ p. p.is_virtual) bool_cmp)
    (then_cmp (on real_parts (slice_cmp (slice_cmp nat_cmp))) (on (λ p. p.text) (slice_cmp nat_cmp)))

-- the real path of this text
abbrev pub real : List ℕ → PathContent
real text = record { is_virtual = false; text = text }

-- the virtual path of this text
abbrev pub virtual : List ℕ → PathContent
virtual text = record { is_virtual = true; text = text }

-- the path is real
abbrev pub IsReal : PathContent → Type 0
IsReal path = path.is_virtual ≡ false

-- the path is virtual
abbrev pub IsVirtual : PathContent → Type 0
IsVirtual path = path.is_virtual ≡ true

-- the content of what a path holds
abbrev pub path_content : VfsPathRepr → PathContent
path_content (Real text) = real text
path_content (Virtual text) = virtual text

-- both paths are real
abbrev pub AreReal : PathContent → PathContent → Type 0
AreReal path other = IsReal path × IsReal other

-- both paths are virtual
abbrev pub AreVirtual : PathContent → PathContent → Type 0
AreVirtual path other = IsVirtual path × IsVirtual other

-- one path is real and the other virtual
abbrev pub AreOfTwoKinds : PathContent → PathContent → Type 0
AreOfTwoKinds path other = beq path.is_virtual other.is_virtual ≡ false

-- a real path joined with a tail
abbrev pub real_joined : PathContent → List ℕ → PathContent
real_joined path tail = real (real_joined_text path.text tail)

-- a real path has a path joined with a tail
abbrev pub JoinsReal : PathContent → List ℕ → Option PathContent → Type 0
JoinsReal path tail made = IsReal path → made ≡ Some (real_joined path tail)

-- the components without the last
abbrev pub parts_above : PathContent → List (List ℕ)
parts_above path = without_last (components path.text)

-- the path above a real one
abbrev pub real_above : PathContent → Option PathContent
real_above path = option_map real (parent_text path.text)

-- whether both paths are of one kind, and the components of the front come first in the other
abbrev pub is_path_prefix : PathContent → PathContent → Bool
is_path_prefix front path = beq path.is_virtual front.is_virtual && is_text_prefix front.text path.text

-- a virtual path joined with a tail has no path where a pop fails
abbrev pub JoinsVirtual : PathContent → List ℕ → Option PathContent → Type 0
JoinsVirtual path tail made = IsVirtual path → made ≡ option_map virtual (virtual_joined path.text tail)

-- the path above a virtual one
abbrev pub virtual_above : PathContent → Option PathContent
virtual_above path = option_map virtual (virtual_parent path.text)

-- the text of the path above, if there is one
abbrev pub text_above : PathContent → Option (List ℕ)
text_above path = if path.is_virtual then virtual_parent path.text else parent_text path.text
