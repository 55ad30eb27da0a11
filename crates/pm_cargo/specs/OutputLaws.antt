-- Which outputs of builds the laws of their equality speak of: paths are equal by their components, so those
-- whose paths are clean, as the text of every path is.
use Rattle.std.specs.Prelude.{IfSome}
use Rattle.base_text_paths.specs.Paths.{IsClean}
use Rattle.pm_cargo.specs.declared.output.BuildScriptOutput.{BuildScriptOutput}
use Rattle.pm_cargo.specs.declared.output.ProcMacroDylibPath.{ProcMacroDylibPath}
use Rattle.pm_cargo.specs.declared.output.ProcMacroDylibPath.TheVariants.{Path, DylibNotFound, NotProcMacro, NotBuilt}

-- the path of the library is clean, where it is known
abbrev pub HasCleanLibrary : ProcMacroDylibPath → Type 0
HasCleanLibrary (Path path) = IsClean path
HasCleanLibrary DylibNotFound = Unit {0}
HasCleanLibrary NotProcMacro = Unit {0}
HasCleanLibrary NotBuilt = Unit {0}

-- both paths of an output are clean
pub record HasCleanOutput (output : BuildScriptOutput) : Type 0 where
  pub out_dir : IfSome output.out_dir IsClean
  pub library : HasCleanLibrary output.proc_macro_dylib_path
