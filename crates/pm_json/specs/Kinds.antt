-- the closed tables of names: editions, kinds of target and kinds of runnable, as `rust-project.json` writes
-- them
use Rattle.std.specs.Prelude.{ℕ, false, List, [], ◌∷◌, codes, Ok}
use Rattle.serde_json.specs.Data.{Data}
use Rattle.base_text_paths.specs.declared.edition.Edition.{Edition}
use Rattle.base_text_paths.specs.declared.edition.Edition.TheVariants as base
use Rattle.crate_graph_values.specs.declared.target_kind.TargetKind.{TargetKind}
use Rattle.crate_graph_values.specs.declared.target_kind.TargetKind.TheVariants as of
use Rattle.json_fields.specs.Names.{value_named, value_named_or}
use Rattle.json_fields.specs.Outcome.{Reading}
use Rattle.json_fields.specs.TextJson.{text_form_at, text_form_data}
use Rattle.pm_json.specs.declared.kinds.EditionData.{EditionData}
use Rattle.pm_json.specs.declared.kinds.EditionData.TheVariants as edition
use Rattle.pm_json.specs.declared.kinds.RunnableKind.{RunnableKind}
use Rattle.pm_json.specs.declared.kinds.RunnableKind.TheVariants as runnable
use Rattle.pm_json.specs.declared.kinds.TargetKindData.{TargetKindData}
use Rattle.pm_json.specs.declared.kinds.TargetKindData.TheVariants as target

-- the text of an edition
abbrev pub json_edition_text : EditionData → List ℕ
json_edition_text edition.Edition2015 = codes "2015"
json_edition_text edition.Edition2018 = codes "2018"
json_edition_text edition.Edition2021 = codes "2021"
json_edition_text edition.Edition2024 = codes "2024"

-- the editions
abbrev pub json_editions : List EditionData
json_editions = edition.Edition2015 ∷ edition.Edition2018 ∷ edition.Edition2021 ∷ edition.Edition2024 ∷ []

-- the edition that a text names
unfoldable pub json_edition_of : List ℕ → Reading EditionData
json_edition_of = value_named json_edition_text json_editions

-- an edition, read
abbrev pub json_edition_at : Data → Reading EditionData
json_edition_at = text_form_at json_edition_of

-- an edition, written
abbrev pub json_edition_data : EditionData → Data
json_edition_data = text_form_data json_edition_text

-- the edition of a crate that a document states
abbrev pub edition_from : EditionData → Edition
edition_from edition.Edition2015 = base.Edition2015
edition_from edition.Edition2018 = base.Edition2018
edition_from edition.Edition2021 = base.Edition2021
edition_from edition.Edition2024 = base.Edition2024

-- the text of a kind of target
abbrev pub json_target_kind_text : TargetKindData → List ℕ
json_target_kind_text target.Bin = codes "bin"
json_target_kind_text target.Lib = codes "lib"
json_target_kind_text target.Test = codes "test"

-- the kinds of target
abbrev pub json_target_kinds : List TargetKindData
json_target_kinds = target.Bin ∷ target.Lib ∷ target.Test ∷ []

-- the kind of target that a text names
unfoldable pub json_target_kind_of : List ℕ → Reading TargetKindData
json_target_kind_of = value_named json_target_kind_text json_target_kinds

-- a kind of target, read
abbrev pub json_target_kind_at : Data → Reading TargetKindData
json_target_kind_at = text_form_at json_target_kind_of

-- a kind of target, written
abbrev pub json_target_kind_data : TargetKindData → Data
json_target_kind_data = text_form_data json_target_kind_text

-- the kind of a crate that a build system states, whose libraries are none of procedural macros
abbrev pub target_kind_from : TargetKindData → TargetKind
target_kind_from target.Bin = of.Bin
target_kind_from target.Lib = of.Lib false
target_kind_from target.Test = of.Test

-- the text of a kind of runnable
abbrev pub runnable_kind_text : RunnableKind → List ℕ
runnable_kind_text runnable.Check = codes "check"
runnable_kind_text runnable.Run = codes "run"
runnable_kind_text runnable.TestOne = codes "testOne"
runnable_kind_text runnable.TestMod = codes "testMod"
runnable_kind_text runnable.DocTestOne = codes "docTestOne"
runnable_kind_text runnable.BenchOne = codes "benchOne"
runnable_kind_text runnable.Flycheck = codes "flycheck"
runnable_kind_text runnable.Unknown = codes "unknown"

-- the kinds of runnable that are known
abbrev pub runnable_kinds : List RunnableKind
runnable_kinds =
    runnable.Check ∷ runnable.Run ∷ runnable.TestOne ∷ runnable.TestMod ∷ runnable.DocTestOne
    ∷ runnable.BenchOne ∷ runnable.Flycheck ∷ []

-- the kind of runnable that a text names, which is unknown where the text is another
unfoldable pub runnable_kind_of : List ℕ → RunnableKind
runnable_kind_of = value_named_or runnable_kind_text runnable_kinds (λ _. runnable.Unknown)

-- a kind of runnable, read
abbrev pub runnable_kind_at : Data → Reading RunnableKind
runnable_kind_at = text_form_at (λ text. Ok (runnable_kind_of text))

-- a kind of runnable, written
abbrev pub runnable_kind_data : RunnableKind → Data
runnable_kind_data = text_form_data runnable_kind_text
