-- How a refusal of the file system is written: by the variant's name.
use Rattle.std.specs.Prelude.{ℕ, List, codes}
use Rattle.vfs_core.specs.declared.vfs.VfsError.{VfsError}
use Rattle.vfs_core.specs.declared.vfs.VfsError.TheVariants.{TooMany, OutOfMemory}

-- the text of a refusal
abbrev pub vfs_error_text : VfsError → List ℕ
vfs_error_text TooMany = codes "TooMany"
vfs_error_text OutOfMemory = codes "OutOfMemory"
