-- Packages with what the nodes of their document give them.
use Rattle.std.specs.Prelude.{ℕ, ◌==◌, List, [], ◌∷◌, ◌++◌, map, flat_map, if◌then◌else◌, Ok}
use Rattle.std.specs.List.{enumerate_from}
use Rattle.base_text_paths.specs.Arena.{number_of}
use Rattle.base_text_outside.specs.declared.limits.Limits.{Limits}
use Rattle.cargo_meta_values.specs.declared.names.PackageId.{PackageId}
use Rattle.cargo_meta.specs.declared.package.Package.{Package}
use Rattle.cargo_meta_values.specs.declared.resolve.Node.{Node}
use Rattle.pm_cargo_packages.specs.declared.package.PackageData.{PackageData}
use Rattle.pm_cargo_packages.specs.declared.package.PackageDependency.{PackageDependency}
use Rattle.pm_cargo_reading.specs.Nodes.{links_of}
use Rattle.pm_cargo_reading.specs.Packages.{contents_of}
use Rattle.base_values.specs.Outcome.{◌>>=◌}
use Rattle.pm_cargo_reading.specs.Reading.{Reading}
use Rattle.pm_cargo_reading.specs.declared.contents.Contents.{Contents}
use Rattle.pm_cargo_reading.specs.declared.nodes.Link.{Link}

-- the dependencies that links give the package at a place, in the order of the nodes
abbrev pub dependencies_at : List Link → ℕ → List PackageDependency
dependencies_at links place = flat_map (λ l. if number_of l.source == place then l.dependencies else []) links

-- the features that they give it
abbrev pub features_at : List Link → ℕ → List (List ℕ)
features_at links place = flat_map (λ l. if number_of l.source == place then l.features else []) links

-- the package at a place with what links give it
abbrev pub package_with_links : List Link → ℕ × PackageData → PackageData
package_with_links links p =
    record p.1 {
      dependencies = p.1.dependencies ++ dependencies_at links p.0;
      active_features = p.1.active_features
          ++ features_at links p.0;
    }

-- the packages with what links give them
unfoldable pub with_links : List Link → List PackageData → List PackageData
with_links links packages = map (package_with_links links) (enumerate_from 0 packages)

-- a package with what a link has for it
abbrev pub package_with_link : Link → PackageData → PackageData
package_with_link link p = record p {
  dependencies = p.dependencies ++ link.dependencies;
  active_features = p.active_features ++ link.features;
}

-- the packages with what one link gives them
abbrev pub with_link : List PackageData → Link → List PackageData
with_link packages link = with_links (link ∷ []) packages

-- packages with what nodes give them, where no node is refused
unfoldable pub linked_packages : List PackageData → List Node → Reading (List PackageData)
linked_packages packages nodes = links_of packages nodes >>= λ links. Ok (with_links links packages)

-- packages and targets of a document, of which the packages are taken first, and then have what the nodes
-- give them
unfoldable pub linked_contents : List PackageId → Limits → List Package → List Node → Reading Contents
linked_contents members limits packages nodes =
    contents_of members limits packages >>= λ contents.
    linked_packages contents.packages nodes >>= λ linked.
    Ok (record { packages = linked; targets = contents.targets })
