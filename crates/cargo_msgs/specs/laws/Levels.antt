-- levels and applicabilities are read again from their names
use Rattle.std.specs.Prelude.{◌≡◌, ℕ, List, IfOk, Ok}
use Rattle.json_fields.specs.Laws.Names.{value_named-again}
use Rattle.cargo_msgs.specs.Levels.{applicabilities, applicability_of, applicability_text, level_of, level_text, levels}

-- a level is read again from its name
pub level_of-again : (text : List ℕ) → IfOk (level_of text) (λ x. level_of (level_text x) ≡ Ok x)
unfolding level_of
level_of-again text = value_named-again level_text levels text

-- an applicability is read again from its name
pub applicability_of-again : (text : List ℕ)
    → IfOk (applicability_of text) (λ x. applicability_of (applicability_text x) ≡ Ok x)
unfolding applicability_of
applicability_of-again text = value_named-again applicability_text applicabilities text
