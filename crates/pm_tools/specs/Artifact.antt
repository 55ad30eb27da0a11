-- What an artifact says of the library that a procedural macro is loaded from.
use Rattle.std.specs.Prelude.{ℕ, Bool, ◌&&◌, not, true, false, if◌then◌else◌, List, find, Option, Some, None, Ok, Err}
use Rattle.std.specs.List.{list_any}
use Rattle.base_text_paths.specs.Paths.{if_absolute}
use Rattle.cargo_meta_values.specs.declared.kinds.TargetKind.{TargetKind}
use Rattle.cargo_meta_values.specs.declared.kinds.TargetKind.TheVariants as kind
use Rattle.cargo_msgs.specs.declared.artifact.Artifact.{Artifact}
use Rattle.pm_tools.specs.Library.{is_library}
use Rattle.base_values.specs.Outcome.{◌>>=◌}
use Rattle.pm_tools.specs.Reading.{Reading}
use Rattle.pm_tools.specs.declared.build_error.BuildError.TheVariants.{NotAbsolute}
use Rattle.pm_cargo.specs.declared.output.BuildScriptOutput.{BuildScriptOutput}
use Rattle.pm_cargo.specs.declared.output.ProcMacroDylibPath.{ProcMacroDylibPath}
use Rattle.pm_cargo.specs.declared.output.ProcMacroDylibPath.TheVariants.{Path, DylibNotFound, NotProcMacro, NotBuilt}

-- the path of a text, which must be absolute; it is kept clean
unfoldable pub absolute_output_path : List ℕ → Reading (List ℕ)
absolute_output_path text = if_absolute text (λ path. Ok path) (Err (NotAbsolute text))

-- whether a kind is that of a procedural macro
abbrev pub is_macro_kind : TargetKind → Bool
is_macro_kind kind.ProcMacro = true
is_macro_kind other = false

-- whether the artifact is that of a procedural macro
abbrev pub is_macro : Artifact → Bool
is_macro a = list_any is_macro_kind a.target.kind

-- the path of a library is known
abbrev pub is_path : ProcMacroDylibPath → Bool
is_path (Path path) = true
is_path DylibNotFound = false
is_path NotProcMacro = false
is_path NotBuilt = false

-- something was built, which is no macro as long as none is known
abbrev pub after_build : ProcMacroDylibPath → ProcMacroDylibPath
after_build (Path path) = Path path
after_build DylibNotFound = DylibNotFound
after_build NotProcMacro = NotProcMacro
after_build NotBuilt = NotProcMacro

-- the library at a path, which must be absolute, if a file was found
abbrev pub dylib_at : Option (List ℕ) → Reading ProcMacroDylibPath
dylib_at None = Ok DylibNotFound
dylib_at (Some file) = absolute_output_path file >>= λ path. Ok (Path path)

-- the library of a macro: the first of its files that is one
abbrev pub library_among : List (List ℕ) → Reading ProcMacroDylibPath
library_among files = dylib_at (find is_library files)

-- the artifact gives a library: it is that of a macro, and no path is known yet
abbrev pub gives_library : Artifact → ProcMacroDylibPath → Bool
gives_library a path = is_macro a && not (is_path path)

-- what is known of the library after an artifact
unfoldable pub dylib_after : Artifact → ProcMacroDylibPath → Reading ProcMacroDylibPath
dylib_after a path = if gives_library a path then library_among a.filenames else Ok (after_build path)

-- the output after an artifact
abbrev pub output_after_artifact : Artifact → BuildScriptOutput → Reading BuildScriptOutput
output_after_artifact a output =
    dylib_after a output.proc_macro_dylib_path >>= λ path. Ok (record output { proc_macro_dylib_path = path })
