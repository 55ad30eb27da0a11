-- What stands beside a path, by its kind.
use Rattle.std.proofs.Common.{◌≡◌, ℕ, Bool, true, false, List, Option, refl, ◌∙◌, ap}
use Rattle.std.specs.Option.{unwrap_or}
use Rattle.base_text_paths.specs.Paths.{path_text}
use Rattle.vfs_core.specs.VfsPath.{PathContent, parts_above, real, virtual, IsReal, IsVirtual, JoinsReal, JoinsVirtual}
use Rattle.vfs_core.specs.VirtualPath.{virtual_parent}
use Rattle.vfs_sets.specs.FileSet.{sibling_path, directory, joined_path}

-- a path that was popped is the directory
directory-split : (path base : PathContent) (kind : Bool) → path.is_virtual ≡ kind
    → (IsReal path → base ≡ real (path_text (parts_above path)))
    → (IsVirtual path → base ≡ virtual (unwrap_or (virtual_parent path.text) path.text))
    → base ≡ directory path
directory-split path base true e as_real as_virtual = rw e (as_virtual e)
directory-split path base false e as_real as_virtual = rw e (as_real e)

-- a path that was joined is the join
joined-split : (base : PathContent) (tail : List ℕ) (made : Option PathContent) (kind : Bool) → base.is_virtual ≡ kind
    → JoinsReal base tail made → JoinsVirtual base tail made → made ≡ joined_path base tail
joined-split base tail made true e as_real as_virtual = rw e (as_virtual e)
joined-split base tail made false e as_real as_virtual = rw e (as_real e)

-- both one after the other
pub beside_is : (path base : PathContent) (tail : List ℕ) (made : Option PathContent)
    → (IsReal path → base ≡ real (path_text (parts_above path)))
    → (IsVirtual path → base ≡ virtual (unwrap_or (virtual_parent path.text) path.text))
    → JoinsReal base tail made → JoinsVirtual base tail made → made ≡ sibling_path path tail
beside_is path base tail made pops_real pops_virtual joins_real joins_virtual =
    joined-split base tail made base.is_virtual refl joins_real joins_virtual
    ∙ ap (λ (p : PathContent). joined_path p tail) (directory-split path base path.is_virtual refl pops_real pops_virtual)
