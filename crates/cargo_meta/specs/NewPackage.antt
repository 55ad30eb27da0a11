-- a package as its maker gives it
use Rattle.std.specs.Prelude.{ℕ, List, [], None}
use Rattle.semver.specs.Parse.{Parts}
use Rattle.serde_json.specs.Data.{null}
use Rattle.cargo_meta_values.specs.declared.kinds.Edition.TheVariants.{E2015}
use Rattle.cargo_meta_values.specs.declared.names.PackageId.{PackageId}
use Rattle.cargo_meta.specs.declared.package.Package.{Package}

-- the package of these four: its other fields are empty, none, or their defaults
abbrev pub new_package : List ℕ → Parts → PackageId → List ℕ → Package
new_package name version id path = record {
  name = name;
  version = version;
  authors = [];
  id = id;
  source = None;
  description = None;
  dependencies = [];
  license = None;
  license_file = None;
  targets = [];
  features = [];
  manifest_path = path;
  categories = [];
  keywords = [];
  readme = None;
  repository = None;
  homepage = None;
  documentation = None;
  edition = E2015;
  metadata = null;
  links = None;
  publish = None;
  default_run = None;
  rust_version = None;
}
