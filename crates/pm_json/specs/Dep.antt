-- the table of a dependency: the place of a crate in the document's list, and a name, which holds no dash
use Rattle.std.specs.Prelude.{◌≡◌, if◌then◌else◌, ℕ, List, [], codes, false, refl, Ok, Err}
use Rattle.serde_json.specs.Data.{Data, number, unsigned, object, string, no_members}
use Rattle.crate_graph_values.specs.Names.{has_dash}
use Rattle.json_fields.specs.Fields.{members_at, number_at, required_member}
use Rattle.base_values.specs.Outcome.{◌>>=◌}
use Rattle.json_fields.specs.Outcome.{Reading}
use Rattle.json_fields.specs.TextJson.{text_form_at}
use Rattle.json_fields.specs.Written.{is_null, set_member}
use Rattle.pm_json.specs.declared.dep.CrateArrayIdx.{CrateArrayIdx}
use Rattle.pm_json.specs.declared.dep.Dep.{Dep}

-- the name that a text is, unless it holds a dash
unfoldable pub crate_name_of : List ℕ → Reading (List ℕ)
crate_name_of text = if has_dash text then Err [] else Ok text

-- a name of a crate
abbrev pub crate_name_at : Data → Reading (List ℕ)
crate_name_at = text_form_at crate_name_of

-- a place in the document's list
abbrev pub crate_idx : ℕ → CrateArrayIdx
crate_idx n = record { 0 = n }

-- a dependency as its document has it
unfoldable pub dep_at : Data → Reading Dep
dep_at d = do
  ms ← members_at d
  krate ← required_member (codes "crate") number_at ms
  name ← required_member (codes "name") crate_name_at ms
  Ok (record { krate = crate_idx krate; name = name })

-- the document of a dependency
unfoldable pub dep_data : Dep → Data
dep_data d =
    object
    (set_member (codes "name") (string d.name) (set_member (codes "crate") (number (unsigned d.krate.0)) no_members))

-- a dependency is not written as null
pub dep_data-present : (d : Dep) → is_null (dep_data d) ≡ false
unfolding dep_data
dep_data-present d = refl
