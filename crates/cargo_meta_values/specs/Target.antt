-- the table of a target, in the field order of `cargo metadata`
use Rattle.std.specs.Prelude.{◌≡◌, [], codes, true, false, refl, Ok}
use Rattle.serde_json.specs.Data.{Data, object, no_members, boolean, string}
use Rattle.json_fields.specs.Fields.{members_at, required_member, default_member, text_at, flag_at, list_at}
use Rattle.base_values.specs.Outcome.{◌>>=◌}
use Rattle.json_fields.specs.Outcome.{Reading}
use Rattle.json_fields.specs.Written.{is_null, list_data, set_member}
use Rattle.cargo_meta_values.specs.Kinds.{crate_type_at, crate_type_data, edition_at, edition_data, target_kind_at, target_kind_data}
use Rattle.cargo_meta_values.specs.declared.kinds.Edition.TheVariants.{E2015}
use Rattle.cargo_meta_values.specs.declared.target.Target.{Target}

-- a target as its document gives it
unfoldable pub target_at : Data → Reading Target
target_at d = do
  ms ← members_at d
  name ← required_member (codes "name") text_at ms
  kind ← required_member (codes "kind") (list_at target_kind_at) ms
  crate_types ← default_member (codes "crate_types") [] (list_at crate_type_at) ms
  required_features ← default_member (codes "required-features") [] (list_at text_at) ms
  src_path ← required_member (codes "src_path") text_at ms
  edition ← default_member (codes "edition") E2015 edition_at ms
  doctest ← default_member (codes "doctest") true flag_at ms
  test ← default_member (codes "test") true flag_at ms
  doc ← default_member (codes "doc") true flag_at ms
  Ok (record {
    name = name;
    kind = kind;
    crate_types = crate_types;
    required_features = required_features;
    src_path = src_path;
    edition = edition;
    doctest = doctest;
    test = test;
    doc = doc;
  })

-- the document of a target
unfoldable pub target_data : Target → Data
target_data t =
    object (set_member (codes "doc") (boolean t.doc)
    (set_member (codes "test") (boolean t.test)
    (set_member (codes "doctest") (boolean t.doctest)
    (set_member (codes "edition") (edition_data t.edition)
    (set_member (codes "src_path") (string t.src_path)
    (set_member (codes "required-features") (list_data string t.required_features)
    (set_member (codes "crate_types") (list_data crate_type_data t.crate_types)
    (set_member (codes "kind") (list_data target_kind_data t.kind)
    (set_member (codes "name") (string t.name) no_members)))))))))

-- a target is not written as null
pub target_data-present : (t : Target) → is_null (target_data t) ≡ false
unfolding target_data
target_data-present t = refl
