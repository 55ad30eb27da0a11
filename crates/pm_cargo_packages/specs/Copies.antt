-- the parts of a package that are copied together, and the package that is put together from them
use Rattle.pm_cargo_packages.specs.declared.package.Lists.{Lists}
use Rattle.pm_cargo_packages.specs.declared.package.OptionalTexts.{OptionalTexts}
use Rattle.pm_cargo_packages.specs.declared.package.PackageData.{PackageData}
use Rattle.pm_cargo_packages.specs.declared.package.Parts.{Parts}

-- what a package has several of
abbrev pub lists_of : PackageData → Lists
lists_of p = record {
  targets = p.targets;
  dependencies = p.dependencies;
  features = p.features;
  active_features = p.active_features;
  authors = p.authors;
}

-- the texts that its manifest may leave out
abbrev pub optional_texts : PackageData → OptionalTexts
optional_texts p = record {
  repository = p.repository;
  description = p.description;
  homepage = p.homepage;
  license = p.license;
  license_file = p.license_file;
  readme = p.readme;
}

-- the other parts, except plain fields
abbrev pub parts_of : PackageData → Parts
parts_of p = record {
  version = p.version;
  name = p.name;
  manifest = p.manifest;
  id = p.id;
  rust_version = p.rust_version;
  metadata = p.metadata;
  all_member_deps = p.all_member_deps;
}

-- a package of these parts, whose plain fields are those of another one
abbrev pub package_of : Parts → Lists → OptionalTexts → PackageData → PackageData
package_of parts lists texts p = record {
  version = parts.version;
  name = parts.name;
  repository = texts.repository;
  manifest = parts.manifest;
  targets = lists.targets;
  is_local = p.is_local;
  is_member = p.is_member;
  dependencies = lists.dependencies;
  edition = p.edition;
  features = lists.features;
  active_features = lists.active_features;
  id = parts.id;
  authors = lists.authors;
  description = texts.description;
  homepage = texts.homepage;
  license = texts.license;
  license_file = texts.license_file;
  readme = texts.readme;
  rust_version = parts.rust_version;
  metadata = parts.metadata;
  all_member_deps = parts.all_member_deps;
}
