-- the names of levels and applicabilities, as `cargo`'s messages write them
use Rattle.std.specs.Prelude.{ℕ, List, [], ◌∷◌, codes}
use Rattle.json_fields.specs.Names.{value_named}
use Rattle.json_fields.specs.Outcome.{Reading}
use Rattle.cargo_msgs.specs.declared.level.DiagnosticLevel.{DiagnosticLevel}
use Rattle.cargo_msgs.specs.declared.level.DiagnosticLevel.TheVariants.{Ice, Error, Warning, FailureNote, Note, Help}
use Rattle.cargo_msgs.specs.declared.level.Applicability.{Applicability}
use Rattle.cargo_msgs.specs.declared.level.Applicability.TheVariants.{MachineApplicable, HasPlaceholders, MaybeIncorrect, Unspecified}

-- the name of a level
abbrev pub level_text : DiagnosticLevel → List ℕ
level_text Ice = codes "error: internal compiler error"
level_text Error = codes "error"
level_text Warning = codes "warning"
level_text FailureNote = codes "failure-note"
level_text Note = codes "note"
level_text Help = codes "help"

-- all levels
abbrev pub levels : List DiagnosticLevel
levels = Ice ∷ Error ∷ Warning ∷ FailureNote ∷ Note ∷ Help ∷ []

-- the level of a name
unfoldable pub level_of : List ℕ → Reading DiagnosticLevel
level_of = value_named level_text levels

-- the name of an applicability
abbrev pub applicability_text : Applicability → List ℕ
applicability_text MachineApplicable = codes "MachineApplicable"
applicability_text HasPlaceholders = codes "HasPlaceholders"
applicability_text MaybeIncorrect = codes "MaybeIncorrect"
applicability_text Unspecified = codes "Unspecified"

-- all applicabilities
abbrev pub applicabilities : List Applicability
applicabilities = MachineApplicable ∷ HasPlaceholders ∷ MaybeIncorrect ∷ Unspecified ∷ []

-- the applicability of a name
unfoldable pub applicability_of : List ℕ → Reading Applicability
applicability_of = value_named applicability_text applicabilities
