-- the table of a diagnostic, whose children are diagnostics, in the field order of `cargo`'s messages
use Rattle.std.specs.Prelude.{◌≡◌, ℕ, false, codes, refl, Ok}
use Rattle.serde_json.specs.Data.{Data, array, object, string, no_members}
use Rattle.serde_json.specs.Read.{max_depth}
use Rattle.serde_json.specs.View.{items_of}
use Rattle.json_fields.specs.Fields.{list_at, members_at, optional_member, required_member, text_at}
use Rattle.json_fields.specs.Nested.{within_levels}
use Rattle.base_values.specs.Outcome.{◌>>=◌}
use Rattle.json_fields.specs.Outcome.{Reading}
use Rattle.json_fields.specs.TextJson.{text_form_at, text_form_data}
use Rattle.json_fields.specs.Written.{is_null, list_data, option_data, set_member}
use Rattle.cargo_msgs.specs.Levels.{level_of, level_text}
use Rattle.cargo_msgs.specs.Span.{span_at, span_data}
use Rattle.cargo_msgs.specs.declared.diagnostic.DiagnosticCode.{DiagnosticCode}
use Rattle.cargo_msgs.specs.declared.diagnostic.Diagnostic.{Diagnostic}
use Rattle.cargo_msgs.specs.declared.diagnostic.Diagnostic.TheFolds.{fold-Diagnostic}
use Rattle.cargo_msgs.specs.declared.diagnostic.Diagnostic.TheOpen.{Diagnostic-F}
use Rattle.cargo_msgs.specs.declared.diagnostic.Diagnostic.TheViews.{roll-Diagnostic}

-- the code of a diagnostic
unfoldable pub code_at : Data → Reading DiagnosticCode
code_at d = do
  ms ← members_at d
  code ← required_member (codes "code") text_at ms
  explanation ← optional_member (codes "explanation") text_at ms
  Ok (record { code = code; explanation = explanation })

-- the document of a code
unfoldable pub code_data : DiagnosticCode → Data
code_data c =
    object (set_member (codes "explanation") (option_data string c.explanation)
    (set_member (codes "code") (string c.code) no_members))

-- a code is not written as null
pub code_data-present : (c : DiagnosticCode) → is_null (code_data c) ≡ false
unfolding code_data
code_data-present c = refl

-- one level of a diagnostic, whose children are read by `inner`
unfoldable pub diagnostic_row : (Data → Reading Diagnostic) → Data → Reading Diagnostic
diagnostic_row inner d = do
  ms ← members_at d
  message ← required_member (codes "message") text_at ms
  code ← optional_member (codes "code") code_at ms
  level ← required_member (codes "level") (text_form_at level_of) ms
  spans ← required_member (codes "spans") (list_at span_at) ms
  children ← required_member (codes "children") (list_at inner) ms
  rendered ← optional_member (codes "rendered") text_at ms
  Ok (roll-Diagnostic (record {
    message = message;
    code = code;
    level = level;
    spans = spans;
    children = children;
    rendered = rendered;
  }))

-- a diagnostic of at most n levels
abbrev pub diagnostic_within : ℕ → Data → Reading Diagnostic
diagnostic_within = within_levels diagnostic_row

-- a diagnostic, of as many levels as a document may have
unfoldable pub diagnostic_at : Data → Reading Diagnostic
diagnostic_at = diagnostic_within max_depth

-- one level of a diagnostic, whose children are written
unfoldable pub diagnostic_level : Diagnostic-F Data → Data
diagnostic_level d =
    object (set_member (codes "rendered") (option_data string d.rendered)
    (set_member (codes "children") (array (items_of d.children))
    (set_member (codes "spans") (list_data span_data d.spans)
    (set_member (codes "level") (text_form_data level_text d.level)
    (set_member (codes "code") (option_data code_data d.code)
    (set_member (codes "message") (string d.message) no_members))))))

-- the document of a diagnostic
abbrev pub diagnostic_data : Diagnostic → Data
diagnostic_data = fold-Diagnostic Data diagnostic_level
