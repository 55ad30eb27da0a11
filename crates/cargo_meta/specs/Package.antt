-- the table of a package, in the field order of `cargo metadata`: three groups of eight rows, each read into
-- the package
use Rattle.std.specs.Prelude.{◌≡◌, [], codes, false, refl, Ok}
use Rattle.serde_json.specs.Data.{Data, null, object, string, Members, no_members}
use Rattle.json_fields.specs.Fields.{any_at, default_member, list_at, map_at, members_at, optional_member, required_member, text_at}
use Rattle.base_values.specs.Outcome.{◌>>=◌}
use Rattle.json_fields.specs.Outcome.{Reading}
use Rattle.json_fields.specs.Versions.{bare_at, version_at, version_data}
use Rattle.json_fields.specs.Written.{is_null, list_data, map_data, option_data, set_member, set_unless_null}
use Rattle.cargo_meta_values.specs.Dependency.{dependency_at, dependency_data}
use Rattle.cargo_meta_values.specs.Kinds.{edition_at, edition_data}
use Rattle.cargo_meta_values.specs.Names.{package_id_at, package_id_data, source_at, source_data}
use Rattle.cargo_meta.specs.NewPackage.{new_package}
use Rattle.cargo_meta_values.specs.Target.{target_at, target_data}
use Rattle.cargo_meta_values.specs.declared.kinds.Edition.TheVariants.{E2015}
use Rattle.cargo_meta.specs.declared.package.Package.{Package}
use Rattle.cargo_meta.specs.declared.package_rows.PackageHead.{PackageHead}

-- the first eight rows
unfoldable pub head_rows : Members → Reading PackageHead
head_rows ms = do
  name ← required_member (codes "name") text_at ms
  version ← required_member (codes "version") version_at ms
  authors ← default_member (codes "authors") [] (list_at text_at) ms
  id ← required_member (codes "id") package_id_at ms
  source ← optional_member (codes "source") source_at ms
  description ← optional_member (codes "description") text_at ms
  dependencies ← required_member (codes "dependencies") (list_at dependency_at) ms
  license ← optional_member (codes "license") text_at ms
  Ok (record {
    name = name;
    version = version;
    authors = authors;
    id = id;
    source = source;
    description = description;
    dependencies = dependencies;
    license = license;
  })

-- the package of its first rows, which is otherwise a new one
abbrev pub of_head : PackageHead → Package
of_head h = record (new_package h.name h.version h.id []) {
  authors = h.authors;
  source = h.source;
  description = h.description;
  dependencies = h.dependencies;
  license = h.license;
}

-- the first eight rows, read into a package
unfoldable pub package_head_from : Members → Reading Package
package_head_from ms = do
  head ← head_rows ms
  Ok (of_head head)

-- the next eight rows of a package
unfoldable pub body_from : Package → Members → Reading Package
body_from p ms = do
  license_file ← optional_member (codes "license_file") text_at ms
  targets ← required_member (codes "targets") (list_at target_at) ms
  features ← required_member (codes "features") (map_at (list_at text_at)) ms
  manifest_path ← required_member (codes "manifest_path") text_at ms
  categories ← default_member (codes "categories") [] (list_at text_at) ms
  keywords ← default_member (codes "keywords") [] (list_at text_at) ms
  readme ← optional_member (codes "readme") text_at ms
  repository ← optional_member (codes "repository") text_at ms
  Ok (record p {
    license_file = license_file;
    targets = targets;
    features = features;
    manifest_path = manifest_path;
    categories = categories;
    keywords = keywords;
    readme = readme;
    repository = repository;
  })

-- the last eight rows of a package
unfoldable pub package_tail_from : Package → Members → Reading Package
package_tail_from p ms = do
  homepage ← optional_member (codes "homepage") text_at ms
  documentation ← optional_member (codes "documentation") text_at ms
  edition ← default_member (codes "edition") E2015 edition_at ms
  metadata ← default_member (codes "metadata") null any_at ms
  links ← optional_member (codes "links") text_at ms
  publish ← optional_member (codes "publish") (list_at text_at) ms
  default_run ← optional_member (codes "default_run") text_at ms
  rust_version ← optional_member (codes "rust_version") bare_at ms
  Ok (record p {
    homepage = homepage;
    documentation = documentation;
    edition = edition;
    metadata = metadata;
    links = links;
    publish = publish;
    default_run = default_run;
    rust_version = rust_version;
  })

-- a package as its members have it
unfoldable pub package_from : Members → Reading Package
package_from ms = do
  head ← package_head_from ms
  body ← body_from head ms
  package_tail_from body ms

-- a package as its document has it
unfoldable pub package_at : Data → Reading Package
package_at d = members_at d >>= package_from

-- the first eight members of a package, put among members
unfoldable pub package_head_set : Package → Members → Members
package_head_set p ms =
    set_member (codes "license") (option_data string p.license)
    (set_member (codes "dependencies") (list_data dependency_data p.dependencies)
    (set_member (codes "description") (option_data string p.description)
    (set_member (codes "source") (option_data source_data p.source)
    (set_member (codes "id") (package_id_data p.id)
    (set_member (codes "authors") (list_data string p.authors)
    (set_member (codes "version") (version_data p.version)
    (set_member (codes "name") (string p.name) ms)))))))

-- the next eight members
unfoldable pub body_set : Package → Members → Members
body_set p ms =
    set_member (codes "repository") (option_data string p.repository)
    (set_member (codes "readme") (option_data string p.readme)
    (set_member (codes "keywords") (list_data string p.keywords)
    (set_member (codes "categories") (list_data string p.categories)
    (set_member (codes "manifest_path") (string p.manifest_path)
    (set_member (codes "features") (map_data (list_data string) p.features)
    (set_member (codes "targets") (list_data target_data p.targets)
    (set_member (codes "license_file") (option_data string p.license_file) ms)))))))

-- the last eight members, where null metadata is left out
unfoldable pub package_tail_set : Package → Members → Members
package_tail_set p ms =
    set_member (codes "rust_version") (option_data version_data p.rust_version)
    (set_member (codes "default_run") (option_data string p.default_run)
    (set_member (codes "publish") (option_data (list_data string) p.publish)
    (set_member (codes "links") (option_data string p.links)
    (set_unless_null (codes "metadata") p.metadata
    (set_member (codes "edition") (edition_data p.edition)
    (set_member (codes "documentation") (option_data string p.documentation)
    (set_member (codes "homepage") (option_data string p.homepage) ms)))))))

-- the members of a package
unfoldable pub package_members : Package → Members
package_members p = package_head_set p (body_set p (package_tail_set p no_members))

-- the document of a package
unfoldable pub package_data : Package → Data
package_data p = object (package_members p)

-- a package is not written as null
pub package_data-present : (p : Package) → is_null (package_data p) ≡ false
unfolding package_data
package_data-present p = refl
