-- A toolchain, as contracts see it.
use Rattle.std.specs.Prelude.{ℕ, List, Option}
use Rattle.pm_tools_ask.specs.declared.rust_lib_src.RustLibSrcWorkspace.{RustLibSrcWorkspace}

-- its directory and that of its libraries' sources, each where it is known, and what was read from those
-- sources
pub record Toolchain : Type 0 where
  pub root : Option (List ℕ)
  pub src : Option (List ℕ)
  pub workspace : RustLibSrcWorkspace
