-- Why a crate of procedural macros has no library, and how that is printed.
use Rattle.std.specs.Prelude.{ℕ, Bool, true, false, List, ◌++◌, codes}
use Rattle.crate_graph_values.specs.declared.proc_macro.ProcMacroLoadingError.{ProcMacroLoadingError}
use Rattle.crate_graph_values.specs.declared.proc_macro.ProcMacroLoadingError.TheVariants.{Disabled, FailedToBuild, ExpectedProcMacroArtifact, MissingDylibPath, NotYetBuilt, NoProcMacros, ProcMacroSrvError}

-- a fault, and no choice or delay
abbrev pub is_hard : ProcMacroLoadingError → Bool
is_hard Disabled = false
is_hard FailedToBuild = true
is_hard ExpectedProcMacroArtifact = true
is_hard MissingDylibPath = true
is_hard NotYetBuilt = false
is_hard NoProcMacros = true
is_hard (ProcMacroSrvError text) = true

-- the printed text
abbrev pub reason : ProcMacroLoadingError → List ℕ
reason Disabled = codes "proc-macro expansion is disabled"
reason FailedToBuild = codes "proc-macro failed to build"
reason ExpectedProcMacroArtifact = codes "proc-macro crate did not build proc-macro artifact"
reason MissingDylibPath =
    codes
    "proc-macro crate built but the dylib path is missing, this indicates a problem with your build system."
reason NotYetBuilt = codes "proc-macro not yet built"
reason NoProcMacros = codes "proc macro library has no proc macros"
reason (ProcMacroSrvError text) = codes "proc macro server error: " ++ text
