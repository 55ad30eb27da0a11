-- what is read of a span's document is read again from what is written of it
use Rattle.std.specs.Prelude.{◌≡◌, ◌≤◌, ℕ, max, Bool, false, List, Option, None, Some, codes, refl}
use Rattle.std.proofs.Common.{arith, ap, ◌∙◌}
use Rattle.serde_json.specs.Data.{Data, Members, members_depth, number, boolean, object, string, unsigned, no_members}
use Rattle.serde_json.specs.Read.{max_depth}
use Rattle.serde_json.specs.Written.{has_float}
use Rattle.json_fields.specs.Fields.{optional_member, required_member}
use Rattle.json_fields.specs.Laws.Nested.{within_levels-round_trips}
use Rattle.json_fields.specs.Laws.Numbers.{u32-round_trips}
use Rattle.json_fields.specs.Laws.RoundTrips.{AreWithin, and_then, at_last, flag-round_trips, list-round_trips, no_members-written, number-round_trips, optional_member-kept, required_member-kept, set_member-written, table-round_trips, text-round_trips}
use Rattle.json_fields.specs.Laws.TextForms.{text_form-round_trips}
use Rattle.json_fields.specs.Outcome.{Reading}
use Rattle.json_fields.specs.RoundTrip.{RoundTrips}
use Rattle.json_fields.specs.TextJson.{text_form_at, text_form_data}
use Rattle.json_fields.specs.Written.{is_null, list_data, option_data, set_member}
use Rattle.cargo_msgs.specs.Levels.{applicability_of, applicability_text}
use Rattle.cargo_msgs.specs.laws.Levels.{applicability_of-again}
use Rattle.cargo_msgs.specs.Span.{expansion_data, expansion_level, expansion_row, line_at, line_data, span_at, span_data, span_level, span_row}
use Rattle.cargo_msgs.specs.declared.level.Applicability.{Applicability}
use Rattle.cargo_msgs.specs.declared.span.DiagnosticSpanLine.{DiagnosticSpanLine}
use Rattle.cargo_msgs.specs.declared.span.DiagnosticSpanMacroExpansion.{DiagnosticSpanMacroExpansion}
use Rattle.cargo_msgs.specs.declared.span.DiagnosticSpan.TheFolds.{fold-roll-DiagnosticSpanMacroExpansion, fold-roll-DiagnosticSpan, fold_out-DiagnosticSpanMacroExpansion, fold_out-DiagnosticSpan}
use Rattle.cargo_msgs.specs.declared.span.DiagnosticSpan.TheViews.{roll-DiagnosticSpanMacroExpansion, roll-DiagnosticSpan}
use Rattle.cargo_msgs.specs.declared.span.DiagnosticSpan.{DiagnosticSpan}

-- applicabilities
pub applicability-round_trips :
    RoundTrips (text_form_at applicability_of) (text_form_data applicability_text) 0
applicability-round_trips = text_form-round_trips applicability_of applicability_text applicability_of-again

-- lines
pub line-round_trips : RoundTrips line_at line_data 0
unfolding line_at line_data required_member set_member
line-round_trips = table-round_trips _ line_data 0 λ ms.
    let n = max 0 (members_depth ms) in
    let within : AreWithin n ms = record { within = omega arith } in
    let none : 0 ≤ n = omega arith in
    and_then (required_member-kept text-round_trips none within (codes "text")) λ text text_h.
    and_then (required_member-kept number-round_trips none within (codes "highlight_start"))
    λ highlight_start highlight_start_h.
    and_then (required_member-kept number-round_trips none within (codes "highlight_end"))
    λ highlight_end highlight_end_h.
    let written =
    set_member-written (codes "highlight_end") highlight_end_h
    (set_member-written (codes "highlight_start") highlight_start_h
    (set_member-written (codes "text") text_h (no_members-written _ _)))
    in
    at_last (record { again = refl; clean = written.clean; nests = omega (arith, written.nests) })

-- a span is not written as null
pub span_data-present : (s : DiagnosticSpan) → is_null (span_data s) ≡ false
unfolding span_level
span_data-present s = ap is_null (fold_out-DiagnosticSpan Data Data span_level expansion_level s) ∙ refl

-- an expansion is not written as null
pub expansion_data-present : (e : DiagnosticSpanMacroExpansion) → is_null (expansion_data e) ≡ false
unfolding expansion_level
expansion_data-present e =
    ap is_null (fold_out-DiagnosticSpanMacroExpansion Data Data span_level expansion_level e) ∙ refl

-- what is written of an expansion, by its parts
expansion_members : DiagnosticSpan → List ℕ → Option DiagnosticSpan → Members
expansion_members s name o =
    set_member (codes "def_site_span") (option_data span_data o)
    (set_member (codes "macro_decl_name") (string name)
    (set_member (codes "span") (span_data s) no_members))

expansion_data-roll : (s : DiagnosticSpan) (name : List ℕ) (o : Option DiagnosticSpan)
    → expansion_data
    (roll-DiagnosticSpanMacroExpansion (record { span = s; macro_decl_name = name; def_site_span = o }))
    ≡ object (expansion_members s name o)
unfolding expansion_level expansion_members
expansion_data-roll s name None =
    rw
    (fold-roll-DiagnosticSpanMacroExpansion Data Data span_level expansion_level (record {
      span = s;
      macro_decl_name = name;
      def_site_span = None;
    })) refl
expansion_data-roll s name (Some x) =
    rw
    (fold-roll-DiagnosticSpanMacroExpansion Data Data span_level expansion_level (record {
      span = s;
      macro_decl_name = name;
      def_site_span = Some x;
    })) refl

-- one level of an expansion keeps its spans where they are kept
expansion-round_trips : (inner : Data → Reading DiagnosticSpan) → RoundTrips inner span_data 0
    → RoundTrips (expansion_row inner) expansion_data 0
unfolding expansion_row required_member optional_member set_member expansion_members
expansion-round_trips inner kept = table-round_trips _ expansion_data 0 λ ms.
    let n = max 0 (members_depth ms) in
    let within : AreWithin n ms = record { within = omega arith } in
    let none : 0 ≤ n = omega arith in
    and_then (required_member-kept kept none within (codes "span")) λ span span_h.
    and_then (required_member-kept text-round_trips none within (codes "macro_decl_name")) λ name name_h.
    and_then (optional_member-kept kept none within span_data-present (codes "def_site_span")) λ site site_h.
    let written =
    set_member-written (codes "def_site_span") site_h
    (set_member-written (codes "macro_decl_name") name_h
    (set_member-written (codes "span") span_h (no_members-written _ _)))
    in
    let is = expansion_data-roll span name site in
    at_last (record {
      again = rw (is, span_h.again, site_h.again) refl;
      clean = λ no_float. ap has_float is ∙ written.clean no_float;
      nests = rw is (omega (arith, written.nests));
    })

-- what is written of a span, by its parts
module _ (file_name : List ℕ) (byte_start byte_end line_start line_end column_start column_end : ℕ)
    (is_primary : Bool) (text : List DiagnosticSpanLine)
    (label suggested_replacement : Option (List ℕ)) (suggestion_applicability : Option Applicability) where
  span_members : Option DiagnosticSpanMacroExpansion → Members
  span_members expansion =
      set_member (codes "expansion") (option_data expansion_data expansion)
      (set_member (codes "suggestion_applicability") (option_data (text_form_data applicability_text) suggestion_applicability)
      (set_member (codes "suggested_replacement") (option_data string suggested_replacement)
      (set_member (codes "label") (option_data string label)
      (set_member (codes "text") (list_data line_data text)
      (set_member (codes "is_primary") (boolean is_primary)
      (set_member (codes "column_end") (number (unsigned column_end))
      (set_member (codes "column_start") (number (unsigned column_start))
      (set_member (codes "line_end") (number (unsigned line_end))
      (set_member (codes "line_start") (number (unsigned line_start))
      (set_member (codes "byte_end") (number (unsigned byte_end))
      (set_member (codes "byte_start") (number (unsigned byte_start))
      (set_member (codes "file_name") (string file_name) no_members))))))))))))

  span_data-roll : (expansion : Option DiagnosticSpanMacroExpansion)
      → span_data (roll-DiagnosticSpan (record {
        file_name = file_name;
        byte_start = byte_start;
        byte_end = byte_end;
        line_start = line_start;
        line_end = line_end;
        column_start = column_start;
        column_end = column_end;
        is_primary = is_primary;
        text = text;
        label = label;
        suggested_replacement = suggested_replacement;
        suggestion_applicability = suggestion_applicability;
        expansion = expansion;
      }))
      ≡ object (span_members expansion)
  unfolding span_level span_members
  span_data-roll None =
      rw (fold-roll-DiagnosticSpan Data Data span_level expansion_level (record {
        file_name = file_name;
        byte_start = byte_start;
        byte_end = byte_end;
        line_start = line_start;
        line_end = line_end;
        column_start = column_start;
        column_end = column_end;
        is_primary = is_primary;
        text = text;
        label = label;
        suggested_replacement = suggested_replacement;
        suggestion_applicability = suggestion_applicability;
        expansion = None;
      })) refl
  span_data-roll (Some e) =
      rw (fold-roll-DiagnosticSpan Data Data span_level expansion_level (record {
        file_name = file_name;
        byte_start = byte_start;
        byte_end = byte_end;
        line_start = line_start;
        line_end = line_end;
        column_start = column_start;
        column_end = column_end;
        is_primary = is_primary;
        text = text;
        label = label;
        suggested_replacement = suggested_replacement;
        suggestion_applicability = suggestion_applicability;
        expansion = Some e;
      })) refl

-- one level of a span keeps its expansion where the spans inside are kept
span_row-round_trips : (inner : Data → Reading DiagnosticSpan) → RoundTrips inner span_data 0
    → RoundTrips (span_row inner) span_data 0
unfolding span_row required_member optional_member set_member span_members applicability_of
span_row-round_trips inner kept = table-round_trips _ span_data 0 λ ms.
    let n = max 0 (members_depth ms) in
    let within : AreWithin n ms = record { within = omega arith } in
    let none : 0 ≤ n = omega arith in
    and_then (required_member-kept text-round_trips none within (codes "file_name")) λ file_name file_name_h.
    and_then (required_member-kept u32-round_trips none within (codes "byte_start"))
    λ byte_start byte_start_h.
    and_then (required_member-kept u32-round_trips none within (codes "byte_end")) λ byte_end byte_end_h.
    and_then (required_member-kept number-round_trips none within (codes "line_start"))
    λ line_start line_start_h.
    and_then (required_member-kept number-round_trips none within (codes "line_end")) λ line_end line_end_h.
    and_then (required_member-kept number-round_trips none within (codes "column_start"))
    λ column_start column_start_h.
    and_then (required_member-kept number-round_trips none within (codes "column_end"))
    λ column_end column_end_h.
    and_then (required_member-kept flag-round_trips none within (codes "is_primary"))
    λ is_primary is_primary_h.
    and_then (required_member-kept (list-round_trips _ _ _ line-round_trips) none within (codes "text"))
    λ text text_h.
    and_then (optional_member-kept text-round_trips none within (λ x. refl) (codes "label")) λ label label_h.
    and_then (optional_member-kept text-round_trips none within (λ x. refl) (codes "suggested_replacement"))
    λ suggested_replacement suggested_replacement_h.
    and_then
    (optional_member-kept applicability-round_trips none within (λ x. refl) (codes "suggestion_applicability"))
    λ suggestion_applicability suggestion_applicability_h.
    and_then
    (optional_member-kept (expansion-round_trips inner kept) none within expansion_data-present (codes "expansion"))
    λ expansion expansion_h.
    let written =
    set_member-written (codes "expansion") expansion_h
    (set_member-written (codes "suggestion_applicability") suggestion_applicability_h
    (set_member-written (codes "suggested_replacement") suggested_replacement_h
    (set_member-written (codes "label") label_h
    (set_member-written (codes "text") text_h
    (set_member-written (codes "is_primary") is_primary_h
    (set_member-written (codes "column_end") column_end_h
    (set_member-written (codes "column_start") column_start_h
    (set_member-written (codes "line_end") line_end_h
    (set_member-written (codes "line_start") line_start_h
    (set_member-written (codes "byte_end") byte_end_h
    (set_member-written (codes "byte_start") byte_start_h
    (set_member-written (codes "file_name") file_name_h (no_members-written _ _)))))))))))))
    in
    let is =
    span_data-roll file_name byte_start byte_end line_start line_end column_start column_end is_primary text
    label suggested_replacement suggestion_applicability expansion in
    at_last (record {
      again =
          rw
          (is, byte_start_h.again, byte_end_h.again, text_h.again, label_h.again, suggested_replacement_h.again, suggestion_applicability_h.again, expansion_h.again)
          refl;
      clean = λ no_float. ap has_float is ∙ written.clean no_float;
      nests = rw is (omega (arith, written.nests));
    })

-- a span is read again from what is written of it
pub span-round_trips : RoundTrips span_at span_data 0
unfolding span_at
span-round_trips = within_levels-round_trips span_row span_data 0 span_row-round_trips max_depth
