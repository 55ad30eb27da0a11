-- names, ids and sources: each is a text, and compares as it
use Rattle.std.specs.Prelude.{◌≡◌, ℕ, Bool, List, bytes_eq, codes, Ok}
use Rattle.std.specs.Cmp.Lexicographic.{slice_cmp}
use Rattle.std.specs.Hash as fed
use Rattle.std.specs.declared.cmp.Ordering.{Ordering}
use Rattle.std.specs.Ordering.{nat_cmp}
use Rattle.serde_json.specs.Data.{Data}
use Rattle.json_fields.specs.Outcome.{Reading}
use Rattle.json_fields.specs.TextJson.{text_form_at, text_form_data}
use Rattle.cargo_meta_values.specs.declared.names.PackageId.{PackageId}
use Rattle.cargo_meta_values.specs.declared.names.Source.{Source}

-- equality, order and what a hash takes are those of a text
pub record ComparesAsText {T : Type 0} (text : T → List ℕ) (eq : T → T → Bool) (cmp : T → T → Ordering)
    (hash_input : T → List (List ℕ)) : Type 0 where
  pub equal : (x y : T) → eq x y ≡ bytes_eq (text x) (text y)
  pub order : (x y : T) → cmp x y ≡ slice_cmp nat_cmp (text x) (text y)
  pub hash : (x : T) → hash_input x ≡ fed.str (text x)

-- an id of a text
abbrev pub package_id_of : List ℕ → Reading PackageId
package_id_of text = Ok (record { repr = text })

-- the text of an id
abbrev pub package_id_text : PackageId → List ℕ
package_id_text x = x.repr

-- an id is a text
abbrev pub package_id_at : Data → Reading PackageId
package_id_at = text_form_at package_id_of

-- an id, written
abbrev pub package_id_data : PackageId → Data
package_id_data = text_form_data package_id_text

-- a source of a text
abbrev pub source_of : List ℕ → Reading Source
source_of text = Ok (record { repr = text })

-- the text of a source
abbrev pub source_text : Source → List ℕ
source_text x = x.repr

-- a source is a text
abbrev pub source_at : Data → Reading Source
source_at = text_form_at source_of

-- a source, written
abbrev pub source_data : Source → Data
source_data = text_form_data source_text

-- the source of the registry crates.io
abbrev pub is_crates_io : Source → Bool
is_crates_io source = bytes_eq source.repr (codes "registry+https://github.com/rust-lang/crates.io-index")
