-- What equality of toolchains owes.
use Rattle.std.specs.Prelude.{IfSome}
use Rattle.base_text_paths.specs.Paths.{IsClean}
use Rattle.pm_tools_ask.specs.Toolchain.{Toolchain}

-- the texts of both directories are clean, as those of an `AbsPathBuf` are
pub record HasCleanToolchain (sysroot : Toolchain) : Type 0 where
  pub root : IfSome sysroot.root IsClean
  pub src : IfSome sysroot.src IsClean
