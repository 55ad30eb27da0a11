use Rattle.base_text_paths.specs.contracts.edition.EditionPartialEq.TheImpl as edition
use Rattle.cargo_meta_values.specs.contracts.names.PackageIdPartialEq.TheImpl as id
use Rattle.pm_cargo_packages.specs.contracts.package.PackageDependencyPartialEq.TheImpl as dependency
use Rattle.pm_cargo_packages.specs.contracts.package.RustAnalyzerPackageMetaDataPartialEq.TheImpl as metadata
use Rattle.pm_cargo_packages.proofs.Equalities.{packages_are_equal}
use Rattle.pm_cargo_packages.proofs.laws.equality_of_packages_is_content.Goals as goal

pub returns : goal.returns
returns c =
    packages_are_equal _ _ (dependency.ghosts).eq (edition.ghosts).eq (id.ghosts).eq (metadata.ghosts).eq
    c.equality_of_numbers_is_content.ensures.targets c.equality_of_numbers_is_content.ensures.packages c.equality_is_content.ensures.dependencies c.equality_is_content-2.ensures.editions c.equality_of_numbers_is_content.ensures.ids c.equality_is_content.ensures.metadata
