-- the tables of a span and of the expansion that it comes from, in the field order of `cargo`'s messages
use Rattle.std.specs.Prelude.{ℕ, codes, Ok}
use Rattle.serde_json.specs.Data.{Data, object, string, number, boolean, unsigned, no_members}
use Rattle.serde_json.specs.Read.{max_depth}
use Rattle.json_fields.specs.Fields.{flag_at, list_at, members_at, number_at, optional_member, required_member, text_at}
use Rattle.json_fields.specs.Nested.{within_levels, or_null}
use Rattle.json_fields.specs.Numbers.{u32_at}
use Rattle.base_values.specs.Outcome.{◌>>=◌}
use Rattle.json_fields.specs.Outcome.{Reading}
use Rattle.json_fields.specs.TextJson.{text_form_at, text_form_data}
use Rattle.json_fields.specs.Written.{list_data, option_data, set_member}
use Rattle.cargo_msgs.specs.Levels.{applicability_of, applicability_text}
use Rattle.cargo_msgs.specs.declared.span.DiagnosticSpanLine.{DiagnosticSpanLine}
use Rattle.cargo_msgs.specs.declared.span.DiagnosticSpanMacroExpansion.{DiagnosticSpanMacroExpansion}
use Rattle.cargo_msgs.specs.declared.span.DiagnosticSpan.TheFolds.{fold-DiagnosticSpanMacroExpansion, fold-DiagnosticSpan}
use Rattle.cargo_msgs.specs.declared.span.DiagnosticSpan.TheOpen.{DiagnosticSpanMacroExpansion-F, DiagnosticSpan-F}
use Rattle.cargo_msgs.specs.declared.span.DiagnosticSpan.TheViews.{roll-DiagnosticSpanMacroExpansion, roll-DiagnosticSpan}
use Rattle.cargo_msgs.specs.declared.span.DiagnosticSpan.{DiagnosticSpan}

-- a line of a span
unfoldable pub line_at : Data → Reading DiagnosticSpanLine
line_at d = do
  ms ← members_at d
  text ← required_member (codes "text") text_at ms
  highlight_start ← required_member (codes "highlight_start") number_at ms
  highlight_end ← required_member (codes "highlight_end") number_at ms
  Ok (record { text = text; highlight_start = highlight_start; highlight_end = highlight_end })

-- the document of a line
unfoldable pub line_data : DiagnosticSpanLine → Data
line_data l =
    object (set_member (codes "highlight_end") (number (unsigned l.highlight_end))
    (set_member (codes "highlight_start") (number (unsigned l.highlight_start))
    (set_member (codes "text") (string l.text) no_members)))

-- an expansion, whose spans are read by `inner`
unfoldable pub expansion_row : (Data → Reading DiagnosticSpan) → Data → Reading DiagnosticSpanMacroExpansion
expansion_row inner d = do
  ms ← members_at d
  span ← required_member (codes "span") inner ms
  macro_decl_name ← required_member (codes "macro_decl_name") text_at ms
  def_site_span ← optional_member (codes "def_site_span") inner ms
  Ok (roll-DiagnosticSpanMacroExpansion (record {
    span = span;
    macro_decl_name = macro_decl_name;
    def_site_span = def_site_span;
  }))

-- one level of a span, where the spans of its expansion are read by `inner`
unfoldable pub span_row : (Data → Reading DiagnosticSpan) → Data → Reading DiagnosticSpan
span_row inner d = do
  ms ← members_at d
  file_name ← required_member (codes "file_name") text_at ms
  byte_start ← required_member (codes "byte_start") u32_at ms
  byte_end ← required_member (codes "byte_end") u32_at ms
  line_start ← required_member (codes "line_start") number_at ms
  line_end ← required_member (codes "line_end") number_at ms
  column_start ← required_member (codes "column_start") number_at ms
  column_end ← required_member (codes "column_end") number_at ms
  is_primary ← required_member (codes "is_primary") flag_at ms
  text ← required_member (codes "text") (list_at line_at) ms
  label ← optional_member (codes "label") text_at ms
  suggested_replacement ← optional_member (codes "suggested_replacement") text_at ms
  suggestion_applicability ← optional_member (codes "suggestion_applicability")
      (text_form_at applicability_of) ms
  expansion ← optional_member (codes "expansion") (expansion_row inner) ms
  Ok (roll-DiagnosticSpan (record {
    file_name = file_name;
    byte_start = byte_start;
    byte_end = byte_end;
    line_start = line_start;
    line_end = line_end;
    column_start = column_start;
    column_end = column_end;
    is_primary = is_primary;
    text = text;
    label = label;
    suggested_replacement = suggested_replacement;
    suggestion_applicability = suggestion_applicability;
    expansion = expansion;
  }))

-- a span of at most n levels
abbrev pub span_within : ℕ → Data → Reading DiagnosticSpan
span_within = within_levels span_row

-- a span, of as many levels as a document may have
unfoldable pub span_at : Data → Reading DiagnosticSpan
span_at = span_within max_depth

-- one level of a span, whose expansion is written
unfoldable pub span_level : DiagnosticSpan-F Data Data → Data
span_level s =
    object (set_member (codes "expansion") (or_null s.expansion)
    (set_member (codes "suggestion_applicability") (option_data (text_form_data applicability_text) s.suggestion_applicability)
    (set_member (codes "suggested_replacement") (option_data string s.suggested_replacement)
    (set_member (codes "label") (option_data string s.label)
    (set_member (codes "text") (list_data line_data s.text)
    (set_member (codes "is_primary") (boolean s.is_primary)
    (set_member (codes "column_end") (number (unsigned s.column_end))
    (set_member (codes "column_start") (number (unsigned s.column_start))
    (set_member (codes "line_end") (number (unsigned s.line_end))
    (set_member (codes "line_start") (number (unsigned s.line_start))
    (set_member (codes "byte_end") (number (unsigned s.byte_end))
    (set_member (codes "byte_start") (number (unsigned s.byte_start))
    (set_member (codes "file_name") (string s.file_name) no_members)))))))))))))

-- one level of an expansion, whose spans are written
unfoldable pub expansion_level : DiagnosticSpanMacroExpansion-F Data Data → Data
expansion_level e =
    object (set_member (codes "def_site_span") (or_null e.def_site_span)
    (set_member (codes "macro_decl_name") (string e.macro_decl_name)
    (set_member (codes "span") e.span no_members)))

-- the document of a span
abbrev pub span_data : DiagnosticSpan → Data
span_data = fold-DiagnosticSpan Data Data span_level expansion_level

-- the document of an expansion
abbrev pub expansion_data : DiagnosticSpanMacroExpansion → Data
expansion_data = fold-DiagnosticSpanMacroExpansion Data Data span_level expansion_level
