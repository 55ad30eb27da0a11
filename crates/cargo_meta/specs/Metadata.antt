-- the table of a metadata document, in the field order of `cargo metadata`
use Rattle.std.specs.Prelude.{codes, Ok}
use Rattle.serde_json.specs.Data.{Data, Members, null, number, object, no_members, string, unsigned}
use Rattle.json_fields.specs.Fields.{any_at, default_member, list_at, members_at, number_at, optional_member, required_member, text_at}
use Rattle.base_values.specs.Outcome.{◌>>=◌}
use Rattle.json_fields.specs.Outcome.{Reading}
use Rattle.json_fields.specs.Written.{list_data, option_data, set_member, set_unless_null}
use Rattle.cargo_meta_values.specs.Names.{package_id_at, package_id_data}
use Rattle.cargo_meta.specs.Package.{package_at, package_data}
use Rattle.cargo_meta_values.specs.Resolve.{resolve_at, resolve_data}
use Rattle.cargo_meta.specs.declared.metadata.Metadata.{Metadata}

-- a document as its members give it
unfoldable pub metadata_from : Members → Reading Metadata
metadata_from ms = do
  packages ← required_member (codes "packages") (list_at package_at) ms
  workspace_members ← required_member (codes "workspace_members") (list_at package_id_at) ms
  workspace_default_members ← optional_member (codes "workspace_default_members") (list_at package_id_at) ms
  resolve ← optional_member (codes "resolve") resolve_at ms
  workspace_root ← required_member (codes "workspace_root") text_at ms
  target_directory ← required_member (codes "target_directory") text_at ms
  build_directory ← optional_member (codes "build_directory") text_at ms
  workspace_metadata ← default_member (codes "metadata") null any_at ms
  version ← required_member (codes "version") number_at ms
  Ok (record {
    packages = packages;
    workspace_members = workspace_members;
    workspace_default_members = workspace_default_members;
    resolve = resolve;
    workspace_root = workspace_root;
    target_directory = target_directory;
    build_directory = build_directory;
    workspace_metadata = workspace_metadata;
    version = version;
  })

-- a document as its value gives it
unfoldable pub metadata_at : Data → Reading Metadata
metadata_at d = members_at d >>= metadata_from

-- the members of a document: missing default members and null metadata are left out
unfoldable pub metadata_members : Metadata → Members
metadata_members m =
    set_member (codes "version") (number (unsigned m.version))
    (set_unless_null (codes "metadata") m.workspace_metadata
    (set_member (codes "build_directory") (option_data string m.build_directory)
    (set_member (codes "target_directory") (string m.target_directory)
    (set_member (codes "workspace_root") (string m.workspace_root)
    (set_member (codes "resolve") (option_data resolve_data m.resolve)
    (set_unless_null (codes "workspace_default_members") (option_data (list_data package_id_data) m.workspace_default_members)
    (set_member (codes "workspace_members") (list_data package_id_data m.workspace_members)
    (set_member (codes "packages") (list_data package_data m.packages) no_members))))))))

-- the value of a document
unfoldable pub metadata_data : Metadata → Data
metadata_data m = object (metadata_members m)
