-- what is printed of a diagnostic, as the metadata crate prints it
use Rattle.std.specs.Prelude.{ℕ, List, codes, Option, Some, None}
use Rattle.cargo_msgs.specs.declared.diagnostic.Diagnostic.{Diagnostic}
use Rattle.cargo_msgs.specs.declared.diagnostic.Diagnostic.TheViews.{out-Diagnostic}

-- the rendered text, else a sentence in its place
abbrev pub rendered_or_not : Option (List ℕ) → List ℕ
rendered_or_not None = codes "cargo didn't render this message"
rendered_or_not (Some text) = text

-- the text of a diagnostic
abbrev pub printed_text : Diagnostic → List ℕ
printed_text d = rendered_or_not (out-Diagnostic d).rendered
