-- Which projects the laws of their equality speak of: paths are equal by their components, so those whose
-- paths are clean, as the text of every path is.
use Rattle.std.specs.List.{All}
use Rattle.std.specs.Prelude.{IfSome}
use Rattle.base_text_paths.specs.Paths.{IsClean}
use Rattle.pm_json.specs.declared.krate.Crate.{Crate}
use Rattle.pm_json.specs.declared.project_json.ProjectJson.{ProjectJson}
use Rattle.pm_json.specs.declared.project_json.ProjectJson.TheOpen.{ProjectJson-F}
use Rattle.pm_json.specs.declared.project_json.ProjectJson.TheFolds.{every-ProjectJson}

-- every path of the crate is clean
pub record HasCleanCrate (krate : Crate) : Type 0 where
  pub root_module : IsClean krate.root_module
  pub proc_macro_dylib_path : IfSome krate.proc_macro_dylib_path IsClean
  pub include : All IsClean krate.include
  pub exclude : All IsClean krate.exclude
  pub proc_macro_cwd : IfSome krate.proc_macro_cwd IsClean

-- every path of one level of a project is clean
pub record HasCleanLevel {A : Type 0} (level : ProjectJson-F A) : Type 0 where
  pub sysroot : IfSome level.sysroot IsClean
  pub sysroot_src : IfSome level.sysroot_src IsClean
  pub project_root : IsClean level.project_root
  pub manifest : IfSome level.manifest IsClean
  pub crates : All HasCleanCrate level.crates

-- every path of a project is clean, at each level
abbrev pub HasCleanLevels : ProjectJson → Type 0
HasCleanLevels = every-ProjectJson HasCleanLevel
