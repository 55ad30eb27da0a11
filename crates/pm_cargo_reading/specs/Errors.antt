-- What is printed of a refused document.
use Rattle.std.specs.Prelude.{ℕ, List, codes}
use Rattle.pm_cargo_reading.specs.declared.workspace_error.WorkspaceError.{WorkspaceError}
use Rattle.pm_cargo_reading.specs.declared.workspace_error.WorkspaceError.TheVariants.{NotAbsolute, NoParent, UnknownPackage, TooMany, OutOfMemory}

-- the name of the variant, which is what is printed of a refusal
abbrev pub workspace_error_name : WorkspaceError → List ℕ
workspace_error_name (NotAbsolute text) = codes "NotAbsolute"
workspace_error_name (NoParent text) = codes "NoParent"
workspace_error_name (UnknownPackage id) = codes "UnknownPackage"
workspace_error_name (TooMany limit) = codes "TooMany"
workspace_error_name OutOfMemory = codes "OutOfMemory"
