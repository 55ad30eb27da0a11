-- What is asked of: a compiler in a directory, or the cargo of a manifest in the manifest's directory.
use Rattle.std.specs.Prelude.{ℕ, Bool, true, false, if◌then◌else◌, List, Option, None, codes}
use Rattle.std.specs.Option.{option_copied}
use Rattle.base_text_paths.specs.AbsPath.{abs_text}
use Rattle.base_text.specs.declared.tool.Tool.{Tool}
use Rattle.base_text.specs.declared.tool.Tool.TheVariants.{Cargo as cargo, Rustc as rustc}
use Rattle.pm_tools_ask.specs.Toolchain.{Toolchain}
use Rattle.pm_tools_info.specs.declared.query_config.QueryConfig.{QueryConfig}
use Rattle.pm_tools_info.specs.declared.query_config.QueryConfig.TheVariants.{Rustc, Cargo}
use Rattle.base_text_paths.specs.ManifestPath.{directory_of}

-- what is asked of, as plain data: the tools of a toolchain in a directory, cargo before the compiler or the
-- compiler alone, with the configuration that is printed there, where one is known
pub record Query : Type 0 where
  pub sysroot : Toolchain
  pub dir : List ℕ
  pub by_cargo : Bool
  pub printed : Option (List ℕ)

-- the compiler of a toolchain in a directory
abbrev pub compiler_query : Toolchain → List ℕ → Query
compiler_query sysroot dir = record { sysroot = sysroot; dir = dir; by_cargo = false; printed = None }

-- the cargo of a toolchain for a manifest, with the configuration that is printed for it
abbrev pub manifest_query : Toolchain → List ℕ → Option (List ℕ) → Query
manifest_query sysroot manifest printed =
    record { sysroot = sysroot; dir = directory_of manifest; by_cargo = true; printed = printed }

-- the toolchain whose tools are asked
abbrev pub toolchain_of : QueryConfig → Toolchain
toolchain_of (Rustc sysroot dir) = sysroot.now
toolchain_of (Cargo sysroot manifest config) = sysroot.now

-- the directory in which they are asked: the given one, or that of the manifest
abbrev pub dir_of : QueryConfig → List ℕ
dir_of (Rustc sysroot dir) = abs_text dir
dir_of (Cargo sysroot manifest config) = directory_of manifest.now

-- there is a manifest, so cargo is asked
abbrev pub asks_cargo : QueryConfig → Bool
asks_cargo (Rustc sysroot dir) = false
asks_cargo (Cargo sysroot manifest config) = true

-- the printed configuration, where one is known
abbrev pub configuration_of : QueryConfig → Option (List ℕ)
configuration_of (Rustc sysroot dir) = None
configuration_of (Cargo sysroot manifest config) = option_copied config

-- what a configuration of questions is seen as
abbrev pub query_of : QueryConfig → Query
query_of config = record {
  sysroot = toolchain_of config;
  dir = dir_of config;
  by_cargo = asks_cargo config;
  printed = configuration_of config;
}

-- the tool that answers for itself
abbrev pub tool_of : Query → Tool
tool_of query = if query.by_cargo then cargo else rustc

-- the name that it prints before its version
abbrev pub front_of : Query → List ℕ
front_of query = if query.by_cargo then codes "cargo " else codes "rustc "
