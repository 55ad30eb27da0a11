-- What the workspace of a toolchain's libraries is printed as.
use Rattle.std.specs.Prelude.{ℕ, List, codes}
use Rattle.pm_tools_ask.specs.declared.rust_lib_src.RustLibSrcWorkspace.{RustLibSrcWorkspace}
use Rattle.pm_tools_ask.specs.declared.rust_lib_src.RustLibSrcWorkspace.TheVariants.{Empty}

-- the text that says what was read
abbrev pub workspace_text : RustLibSrcWorkspace → List ℕ
workspace_text Empty = codes "empty"
