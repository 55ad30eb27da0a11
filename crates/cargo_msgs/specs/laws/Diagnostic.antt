-- what is read of a diagnostic's document is read again from what is written of it
use Rattle.std.specs.Prelude.{◌≡◌, ◌≤◌, ℕ, max, List, Option, codes, refl}
use Rattle.std.proofs.Common.{arith, ap, ◌∙◌}
use Rattle.serde_json.specs.Data.{Data, Members, members_depth, object, string, no_members}
use Rattle.serde_json.specs.Read.{max_depth}
use Rattle.serde_json.specs.Written.{has_float}
use Rattle.json_fields.specs.Fields.{optional_member, required_member}
use Rattle.json_fields.specs.Laws.Nested.{within_levels-round_trips}
use Rattle.json_fields.specs.Laws.RoundTrips.{AreWithin, and_then, at_last, list-round_trips, no_members-written, optional_member-kept, required_member-kept, set_member-written, table-round_trips, text-round_trips}
use Rattle.json_fields.specs.Laws.TextForms.{text_form-round_trips}
use Rattle.json_fields.specs.Outcome.{Reading}
use Rattle.json_fields.specs.RoundTrip.{RoundTrips}
use Rattle.json_fields.specs.TextJson.{text_form_at, text_form_data}
use Rattle.json_fields.specs.Written.{list_data, option_data, set_member}
use Rattle.cargo_msgs.specs.Diagnostic.{code_at, code_data, code_data-present, diagnostic_at, diagnostic_data, diagnostic_level, diagnostic_row}
use Rattle.cargo_msgs.specs.Levels.{level_of, level_text}
use Rattle.cargo_msgs.specs.laws.Levels.{level_of-again}
use Rattle.cargo_msgs.specs.Span.{span_data}
use Rattle.cargo_msgs.specs.laws.Span.{span-round_trips}
use Rattle.cargo_msgs.specs.declared.diagnostic.DiagnosticCode.{DiagnosticCode}
use Rattle.cargo_msgs.specs.declared.diagnostic.Diagnostic.{Diagnostic}
use Rattle.cargo_msgs.specs.declared.diagnostic.Diagnostic.TheFolds.{fold-roll-Diagnostic}
use Rattle.cargo_msgs.specs.declared.diagnostic.Diagnostic.TheViews.{roll-Diagnostic}
use Rattle.cargo_msgs.specs.declared.level.DiagnosticLevel.{DiagnosticLevel}
use Rattle.cargo_msgs.specs.declared.span.DiagnosticSpan.{DiagnosticSpan}

-- levels
pub level-round_trips : RoundTrips (text_form_at level_of) (text_form_data level_text) 0
level-round_trips = text_form-round_trips level_of level_text level_of-again

-- codes
pub code-round_trips : RoundTrips code_at code_data 0
unfolding code_at code_data required_member optional_member set_member
code-round_trips = table-round_trips _ code_data 0 λ ms.
    let n = max 0 (members_depth ms) in
    let within : AreWithin n ms = record { within = omega arith } in
    let none : 0 ≤ n = omega arith in
    and_then (required_member-kept text-round_trips none within (codes "code")) λ code code_h.
    and_then (optional_member-kept text-round_trips none within (λ x. refl) (codes "explanation"))
    λ explanation explanation_h.
    let written =
    set_member-written (codes "explanation") explanation_h
    (set_member-written (codes "code") code_h (no_members-written _ _)) in
    at_last
    (record {
      again = rw explanation_h.again refl;
      clean = written.clean;
      nests = omega (arith, written.nests);
    })

-- what is written of a diagnostic, by its parts
module _ (message : List ℕ) (code : Option DiagnosticCode) (level : DiagnosticLevel)
    (spans : List DiagnosticSpan) (children : List Diagnostic) (rendered : Option (List ℕ)) where
  diagnostic_members : Members
  diagnostic_members =
      set_member (codes "rendered") (option_data string rendered)
      (set_member (codes "children") (list_data diagnostic_data children)
      (set_member (codes "spans") (list_data span_data spans)
      (set_member (codes "level") (text_form_data level_text level)
      (set_member (codes "code") (option_data code_data code)
      (set_member (codes "message") (string message) no_members)))))

  diagnostic_data-roll :
      diagnostic_data
      (roll-Diagnostic (record {
        message = message;
        code = code;
        level = level;
        spans = spans;
        children = children;
        rendered = rendered;
      }))
      ≡ object diagnostic_members
  unfolding diagnostic_level diagnostic_members
  diagnostic_data-roll =
      rw
      (fold-roll-Diagnostic Data diagnostic_level (record {
        message = message;
        code = code;
        level = level;
        spans = spans;
        children = children;
        rendered = rendered;
      })) refl

-- one level of a diagnostic keeps its children where they are kept
diagnostic_row-round_trips : (inner : Data → Reading Diagnostic) → RoundTrips inner diagnostic_data 0
    → RoundTrips (diagnostic_row inner) diagnostic_data 0
unfolding diagnostic_row required_member optional_member set_member diagnostic_members
diagnostic_row-round_trips inner kept = table-round_trips _ diagnostic_data 0 λ ms.
    let n = max 0 (members_depth ms) in
    let within : AreWithin n ms = record { within = omega arith } in
    let none : 0 ≤ n = omega arith in
    and_then (required_member-kept text-round_trips none within (codes "message")) λ message message_h.
    and_then (optional_member-kept code-round_trips none within code_data-present (codes "code"))
    λ code code_h.
    and_then (required_member-kept level-round_trips none within (codes "level")) λ level level_h.
    and_then (required_member-kept (list-round_trips _ _ _ span-round_trips) none within (codes "spans"))
    λ spans spans_h.
    and_then (required_member-kept (list-round_trips _ _ _ kept) none within (codes "children"))
    λ children children_h.
    and_then (optional_member-kept text-round_trips none within (λ x. refl) (codes "rendered"))
    λ rendered rendered_h.
    let written =
    set_member-written (codes "rendered") rendered_h
    (set_member-written (codes "children") children_h
    (set_member-written (codes "spans") spans_h
    (set_member-written (codes "level") level_h
    (set_member-written (codes "code") code_h
    (set_member-written (codes "message") message_h (no_members-written _ _))))))
    in
    let is = diagnostic_data-roll message code level spans children rendered in
    at_last (record {
      again = rw (is, code_h.again, level_h.again, spans_h.again, children_h.again, rendered_h.again) refl;
      clean = λ no_float. ap has_float is ∙ written.clean no_float;
      nests = rw is (omega (arith, written.nests));
    })

-- a diagnostic is read again from what is written of it
pub diagnostic-round_trips : RoundTrips diagnostic_at diagnostic_data 0
unfolding diagnostic_at
diagnostic-round_trips =
    within_levels-round_trips diagnostic_row diagnostic_data 0 diagnostic_row-round_trips max_depth
