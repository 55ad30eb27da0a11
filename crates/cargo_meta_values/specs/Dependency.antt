-- the table of a dependency, in the field order of `cargo metadata`
use Rattle.std.specs.Prelude.{◌≡◌, codes, false, refl, Ok}
use Rattle.serde_json.specs.Data.{Data, object, no_members, boolean, string}
use Rattle.json_fields.specs.Fields.{members_at, required_member, optional_member, text_at, flag_at, list_at}
use Rattle.base_values.specs.Outcome.{◌>>=◌}
use Rattle.json_fields.specs.Outcome.{Reading}
use Rattle.json_fields.specs.Versions.{requirement_at}
use Rattle.json_fields.specs.Written.{is_null, list_data, option_data, set_member}
use Rattle.cargo_meta_values.specs.Kinds.{dependency_kind_at, dependency_kind_data}
use Rattle.cargo_meta_values.specs.Names.{source_at, source_data}
use Rattle.cargo_meta_values.specs.declared.dependency.Dependency.{Dependency}

-- a dependency as its document gives it
unfoldable pub dependency_at : Data → Reading Dependency
dependency_at d = do
  ms ← members_at d
  name ← required_member (codes "name") text_at ms
  source ← optional_member (codes "source") source_at ms
  req ← required_member (codes "req") requirement_at ms
  kind ← required_member (codes "kind") dependency_kind_at ms
  is_optional ← required_member (codes "optional") flag_at ms
  uses_default_features ← required_member (codes "uses_default_features") flag_at ms
  features ← required_member (codes "features") (list_at text_at) ms
  target ← optional_member (codes "target") text_at ms
  rename ← optional_member (codes "rename") text_at ms
  registry ← optional_member (codes "registry") text_at ms
  path ← optional_member (codes "path") text_at ms
  Ok (record {
    name = name;
    source = source;
    req = req;
    kind = kind;
    «optional» = is_optional;
    uses_default_features = uses_default_features;
    features = features;
    target = target;
    rename = rename;
    registry = registry;
    path = path;
  })

-- the document of a dependency
unfoldable pub dependency_data : Dependency → Data
dependency_data d =
    object (set_member (codes "path") (option_data string d.path)
    (set_member (codes "registry") (option_data string d.registry)
    (set_member (codes "rename") (option_data string d.rename)
    (set_member (codes "target") (option_data string d.target)
    (set_member (codes "features") (list_data string d.features)
    (set_member (codes "uses_default_features") (boolean d.uses_default_features)
    (set_member (codes "optional") (boolean d.optional)
    (set_member (codes "kind") (dependency_kind_data d.kind)
    (set_member (codes "req") (string d.req)
    (set_member (codes "source") (option_data source_data d.source)
    (set_member (codes "name") (string d.name) no_members)))))))))))

-- a dependency is not written as null
pub dependency_data-present : (d : Dependency) → is_null (dependency_data d) ≡ false
unfolding dependency_data
dependency_data-present d = refl
