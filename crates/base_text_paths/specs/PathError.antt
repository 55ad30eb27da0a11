-- How the errors of paths are printed.
use Rattle.std.specs.Prelude.{ℕ, List, codes}
use Rattle.base_text_paths.specs.declared.paths.path_error.PathError.{PathError}
use Rattle.base_text_paths.specs.declared.paths.path_error.PathError.TheVariants.{NotAbsolute, OutOfMemory}

-- an error prints its name
abbrev pub path_error_text : PathError → List ℕ
path_error_text NotAbsolute = codes "NotAbsolute"
path_error_text OutOfMemory = codes "OutOfMemory"
