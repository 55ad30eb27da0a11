-- Packages, and then what their nodes give them: where each is refused, and what is given.
use Rattle.std.proofs.Common.{◌≡◌, List, Ok, refl}
use Rattle.base_text_outside.specs.declared.limits.Limits.{Limits}
use Rattle.cargo_meta_values.specs.declared.names.PackageId.{PackageId}
use Rattle.cargo_meta.specs.declared.package.Package.{Package}
use Rattle.cargo_meta_values.specs.declared.resolve.Node.{Node}
use Rattle.pm_cargo_packages.specs.declared.package.PackageData.{PackageData}
use Rattle.pm_cargo_reading.specs.Links.{linked_contents, linked_packages, with_links}
use Rattle.pm_cargo_reading.specs.Nodes.{links_of}
use Rattle.pm_cargo_reading.specs.Packages.{contents_of}
use Rattle.pm_cargo_reading.specs.Reading.{Refuses}
use Rattle.pm_cargo_reading.specs.declared.contents.Contents.{Contents}
use Rattle.pm_cargo_reading.specs.declared.nodes.Link.{Link}
use Rattle.pm_cargo_reading.specs.declared.workspace_error.WorkspaceError.{WorkspaceError}
use Rattle.pm_cargo_reading.proofs.ReadingLemmas.{refuses_bind}

module _ (packages : List PackageData) (nodes : List Node) where
  -- a node is refused
  pub packages-no_links : (e : WorkspaceError) → Refuses e (links_of packages nodes) → Refuses e (linked_packages packages nodes)
  unfolding linked_packages
  packages-no_links e h = refuses_bind e (links_of packages nodes) (λ links. Ok (with_links links packages)) h

  -- the packages have what the nodes give them
  pub packages-linked : (links : List Link) → links_of packages nodes ≡ Ok links → linked_packages packages nodes ≡ Ok (with_links links packages)
  unfolding linked_packages
  packages-linked links is = rw is refl

module _ (members : List PackageId) (limits : Limits) (packages : List Package) (nodes : List Node) where
  -- a package is refused
  pub contents-no_packages : (e : WorkspaceError) → Refuses e (contents_of members limits packages) → Refuses e (linked_contents members limits packages nodes)
  unfolding linked_contents
  contents-no_packages e h = refuses_bind e (contents_of members limits packages) _ h

  -- a node is refused
  pub contents-no_links : (e : WorkspaceError) (contents : Contents) → contents_of members limits packages ≡ Ok contents → Refuses e (linked_packages contents.packages nodes)
      → Refuses e (linked_contents members limits packages nodes)
  unfolding linked_contents
  contents-no_links e contents is h = rw is (refuses_bind e (linked_packages contents.packages nodes) _ h)

  -- what is read
  pub contents-linked : (contents : Contents) (linked : List PackageData) → contents_of members limits packages ≡ Ok contents → linked_packages contents.packages nodes ≡ Ok linked
      → linked_contents members limits packages nodes ≡ Ok (record { packages = linked; targets = contents.targets })
  unfolding linked_contents
  contents-linked contents linked is gives = rw is (rw gives refl)
