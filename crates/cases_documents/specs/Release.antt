-- the table of a release, with a row of each kind
use Rattle.std.specs.Prelude.{[], codes, false, Ok}
use Rattle.serde_json.specs.Data.{Data, object, no_members, null, boolean, number, string, unsigned}
use Rattle.json_fields.specs.Fields.{any_at, default_member, flag_at, list_at, map_at, members_at, number_at, optional_member, required_member, text_at}
use Rattle.base_values.specs.Outcome.{◌>>=◌}
use Rattle.json_fields.specs.Outcome.{Reading}
use Rattle.json_fields.specs.Versions.{bare_at, requirement_at, version_at, version_data}
use Rattle.json_fields.specs.Written.{list_data, map_data, option_data, set_member}
use Rattle.cases_documents.specs.declared.release.Release.{Release}

-- a release as its document gives it
unfoldable pub release_at : Data → Reading Release
release_at d = do
  ms ← members_at d
  name ← required_member (codes "name") text_at ms
  version ← required_member (codes "version") version_at ms
  size ← required_member (codes "size") number_at ms
  summary ← optional_member (codes "summary") text_at ms
  rust_version ← optional_member (codes "rust-version") bare_at ms
  yanked ← default_member (codes "yanked") false flag_at ms
  tags ← default_member (codes "tags") [] (list_at text_at) ms
  dependencies ← default_member (codes "dependencies") [] (map_at requirement_at) ms
  extra ← default_member (codes "extra") null any_at ms
  Ok (record {
    name = name;
    version = version;
    size = size;
    summary = summary;
    rust_version = rust_version;
    yanked = yanked;
    tags = tags;
    dependencies = dependencies;
    extra = extra;
  })

-- the document of a release
unfoldable pub release_data : Release → Data
release_data r =
    object (set_member (codes "extra") r.extra
    (set_member (codes "dependencies") (map_data string r.dependencies)
    (set_member (codes "tags") (list_data string r.tags)
    (set_member (codes "yanked") (boolean r.yanked)
    (set_member (codes "rust-version") (option_data version_data r.rust_version)
    (set_member (codes "summary") (option_data string r.summary)
    (set_member (codes "size") (number (unsigned r.size))
    (set_member (codes "version") (version_data r.version)
    (set_member (codes "name") (string r.name) no_members)))))))))
