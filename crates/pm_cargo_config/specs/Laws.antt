-- What equality of configured paths owes.
use Rattle.base_text_paths.specs.Paths.{IsClean}
use Rattle.pm_cargo_config.specs.declared.config.RustLibSource.{RustLibSource}
use Rattle.pm_cargo_config.specs.declared.config.RustLibSource.TheVariants.{Path, Discover}

-- the text of the path is clean, as that of an `AbsPathBuf` is
abbrev pub HasCleanSource : RustLibSource → Type 0
HasCleanSource (Path path) = IsClean path
HasCleanSource Discover = Unit {0}
