-- The printed forms of errors.
use Rattle.std.specs.Prelude.{ℕ, List, codes}
use Rattle.pm_tools.specs.declared.build_error.BuildError.{BuildError}
use Rattle.pm_tools.specs.declared.build_error.BuildError.TheVariants.{Io, NotAbsolute, OutOfMemory}

-- the name of an error's variant
abbrev pub build_error_name : BuildError → List ℕ
build_error_name (Io line) = codes "Io"
build_error_name (NotAbsolute text) = codes "NotAbsolute"
build_error_name OutOfMemory = codes "OutOfMemory"
