-- the texts of kinds and editions: the names that `cargo metadata` writes
use Rattle.std.specs.Prelude.{ℕ, List, [], ◌∷◌, codes, Ok, Err}
use Rattle.serde_json.specs.Data.{Data, null, boolean, number, string, array, object}
use Rattle.json_fields.specs.Names.{value_named, value_named_or}
use Rattle.json_fields.specs.Outcome.{Reading}
use Rattle.json_fields.specs.TextJson.{text_form_at, text_form_data}
use Rattle.cargo_meta_values.specs.declared.kinds.TargetKind.{TargetKind}
use Rattle.cargo_meta_values.specs.declared.kinds.TargetKind.TheVariants as target
use Rattle.cargo_meta_values.specs.declared.kinds.CrateType.{CrateType}
use Rattle.cargo_meta_values.specs.declared.kinds.CrateType.TheVariants as crate_type
use Rattle.cargo_meta_values.specs.declared.kinds.DependencyKind.{DependencyKind}
use Rattle.cargo_meta_values.specs.declared.kinds.DependencyKind.TheVariants as dependency
use Rattle.cargo_meta_values.specs.declared.kinds.Edition.{Edition}
use Rattle.cargo_meta_values.specs.declared.kinds.Edition.TheVariants as edition

-- the text of a kind of target
abbrev pub target_kind_text : TargetKind → List ℕ
target_kind_text target.Bench = codes "bench"
target_kind_text target.Bin = codes "bin"
target_kind_text target.CustomBuild = codes "custom-build"
target_kind_text target.CDyLib = codes "cdylib"
target_kind_text target.DyLib = codes "dylib"
target_kind_text target.Example = codes "example"
target_kind_text target.Lib = codes "lib"
target_kind_text target.ProcMacro = codes "proc-macro"
target_kind_text target.RLib = codes "rlib"
target_kind_text target.StaticLib = codes "staticlib"
target_kind_text target.Test = codes "test"
target_kind_text (target.Unknown text) = text

-- the kinds of targets that are known
abbrev pub target_kinds : List TargetKind
target_kinds =
    target.Bench ∷ target.Bin ∷ target.CustomBuild ∷ target.CDyLib ∷ target.DyLib ∷ target.Example
    ∷ target.Lib ∷ target.ProcMacro ∷ target.RLib ∷ target.StaticLib ∷ target.Test ∷ []

-- the kind of target that a text names; another text stays as it is
unfoldable pub target_kind_of : List ℕ → TargetKind
target_kind_of = value_named_or target_kind_text target_kinds target.Unknown

-- the text of a type of crate
abbrev pub crate_type_text : CrateType → List ℕ
crate_type_text crate_type.Bin = codes "bin"
crate_type_text crate_type.CDyLib = codes "cdylib"
crate_type_text crate_type.DyLib = codes "dylib"
crate_type_text crate_type.Lib = codes "lib"
crate_type_text crate_type.ProcMacro = codes "proc-macro"
crate_type_text crate_type.RLib = codes "rlib"
crate_type_text crate_type.StaticLib = codes "staticlib"
crate_type_text (crate_type.Unknown text) = text

-- the types of crates that are known
abbrev pub crate_types : List CrateType
crate_types =
    crate_type.Bin ∷ crate_type.CDyLib ∷ crate_type.DyLib ∷ crate_type.Lib ∷ crate_type.ProcMacro
    ∷ crate_type.RLib ∷ crate_type.StaticLib ∷ []

-- the type of crate that a text names; another text stays as it is
unfoldable pub crate_type_of : List ℕ → CrateType
crate_type_of = value_named_or crate_type_text crate_types crate_type.Unknown

-- the text of a kind of dependency
abbrev pub dependency_kind_text : DependencyKind → List ℕ
dependency_kind_text dependency.Normal = codes "normal"
dependency_kind_text dependency.Development = codes "dev"
dependency_kind_text dependency.Build = codes "build"
dependency_kind_text dependency.Unknown = codes "Unknown"

-- the kinds of dependencies that are known
abbrev pub dependency_kinds : List DependencyKind
dependency_kinds = dependency.Normal ∷ dependency.Development ∷ dependency.Build ∷ []

-- the kind of dependency that a text names
unfoldable pub dependency_kind_of : List ℕ → DependencyKind
dependency_kind_of = value_named_or dependency_kind_text dependency_kinds (λ _. dependency.Unknown)

-- the text of an edition
abbrev pub edition_text : Edition → List ℕ
edition_text edition.E2015 = codes "2015"
edition_text edition.E2018 = codes "2018"
edition_text edition.E2021 = codes "2021"
edition_text edition.E2024 = codes "2024"
edition_text edition._E2027 = codes "2027"
edition_text edition._E2030 = codes "2030"

-- the editions
abbrev pub editions : List Edition
editions =
    edition.E2015 ∷ edition.E2018 ∷ edition.E2021 ∷ edition.E2024 ∷ edition._E2027 ∷ edition._E2030 ∷ []

-- the edition that a text names
unfoldable pub edition_of : List ℕ → Reading Edition
edition_of = value_named edition_text editions

-- the kind of a target: a text
abbrev pub target_kind_at : Data → Reading TargetKind
target_kind_at = text_form_at (λ text. Ok (target_kind_of text))

-- the kind of a target, written
abbrev pub target_kind_data : TargetKind → Data
target_kind_data = text_form_data target_kind_text

-- the type of a crate, read
abbrev pub crate_type_at : Data → Reading CrateType
crate_type_at = text_form_at (λ text. Ok (crate_type_of text))

-- the type of a crate, written
abbrev pub crate_type_data : CrateType → Data
crate_type_data = text_form_data crate_type_text

-- null is the kind of a normal dependency
abbrev pub dependency_kind_at : Data → Reading DependencyKind
dependency_kind_at null = Ok dependency.Normal
dependency_kind_at (boolean b) = Err []
dependency_kind_at (number n) = Err []
dependency_kind_at (string s) = Ok (dependency_kind_of s)
dependency_kind_at (array ds) = Err []
dependency_kind_at (object ms) = Err []

-- the kind of a dependency, written
abbrev pub dependency_kind_data : DependencyKind → Data
dependency_kind_data kind = string (dependency_kind_text kind)

-- an edition, read
abbrev pub edition_at : Data → Reading Edition
edition_at = text_form_at edition_of

-- an edition, written
abbrev pub edition_data : Edition → Data
edition_data = text_form_data edition_text
