-- versions, requirements and bare versions as tables read and write them: Semantic Versioning as `semver`
-- reads it
use Rattle.std.specs.Prelude.{◌≡◌, ◌==◌, ◌||◌, ◌++◌, if◌then◌else◌, ℕ, List, [], codes, count_by, find, Option, Some, None, Result, Ok, Err}
use Rattle.serde_json.specs.Data.{Data}
use Rattle.semver.specs.Identifiers.{parts_text}
use Rattle.semver.specs.Parse.{Parts, req_of, version_parts}
use Rattle.json_fields.specs.Fields.{under}
use Rattle.json_fields.specs.Outcome.{Reading}
use Rattle.json_fields.specs.TextJson.{text_form_at, text_form_data}
use Rattle.json_fields.specs.declared.bare.BareError.{BareError}
use Rattle.json_fields.specs.declared.bare.BareError.TheVariants.{PreRelease, BuildMetadata, NotVersion, OutOfMemory}

-- what a parser read, or a miss of this place
abbrev pub or_missed : {T E : Type 0} → Result T E → Reading T
or_missed (Ok x) = Ok x
or_missed (Err e) = Err []

-- the version that a text is
unfoldable pub version_of : List ℕ → Reading Parts
version_of text = or_missed (version_parts text)

-- a text that is a version
abbrev pub version_at : Data → Reading Parts
version_at = text_form_at version_of

-- the text of a version
unfoldable pub version_text : Parts → List ℕ
version_text p = parts_text p

-- a version as its text
abbrev pub version_data : Parts → Data
version_data = text_form_data version_text

-- the requirement that a text is, which stays as it is
unfoldable pub requirement_of : List ℕ → Reading (List ℕ)
requirement_of text = under (λ _. text) (or_missed (req_of text))

-- a text that is a requirement
abbrev pub requirement_at : Data → Reading (List ℕ)
requirement_at = text_form_at requirement_of

-- a requirement as its text
abbrev pub requirement_data : List ℕ → Data
requirement_data = text_form_data (λ text. text)

-- the first `-` or `+`
abbrev pub first_mark : List ℕ → Option ℕ
first_mark text = find (λ b. (b == 45) || (b == 43)) text

-- with exactly one dot, `.0` is appended
abbrev pub full_version_text : List ℕ → List ℕ
full_version_text text = if count_by (λ b. b == 46) text == 1 then text ++ codes ".0" else text

-- the version that a parser read, or none
abbrev pub or_not_version : {E : Type 0} → Result Parts E → Result Parts BareError
or_not_version (Ok p) = Ok p
or_not_version (Err e) = Err NotVersion

-- what stands where the first mark is, and the version where there is none
abbrev pub unless_marked : Option ℕ → Result Parts BareError → Result Parts BareError
unless_marked None version = version
unless_marked (Some mark) version = if mark == 45 then Err PreRelease else Err BuildMetadata

-- a version with no pre-release and no build metadata, whose third number may be left out
unfoldable pub bare_parts : List ℕ → Result Parts BareError
bare_parts text = unless_marked (first_mark text) (or_not_version (version_parts (full_version_text text)))

-- the bare version that a text is
unfoldable pub bare_of : List ℕ → Reading Parts
bare_of text = or_missed (bare_parts text)

-- a text that is a bare version
abbrev pub bare_at : Data → Reading Parts
bare_at = text_form_at bare_of

-- a call answers what the bare reader gives, unless memory ran out
abbrev pub GivesBare : Result Parts BareError → Result Parts BareError → Type 0
GivesBare (Ok p) reading = reading ≡ Ok p
GivesBare (Err PreRelease) reading = reading ≡ Err PreRelease
GivesBare (Err BuildMetadata) reading = reading ≡ Err BuildMetadata
GivesBare (Err NotVersion) reading = reading ≡ Err NotVersion
GivesBare (Err OutOfMemory) reading = Unit {0}
