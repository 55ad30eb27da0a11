use Rattle.std.proofs.Common.{◌≡◌, codes, Ok, refl, rules}
use Rattle.serde_json.specs.View.{members_view}
use Rattle.json_fields.specs.Fields.{optional_member}
use Rattle.cargo_msgs.specs.Span.{expansion_row, span_row, span_within}
use Rattle.cargo_msgs.proofs.span.+span.Goals as goal

pub read_level-returns : goal.read_level-returns
unfolding span_row
read_level-returns t c =
    let ms = members_view c.in_ok-fields.fields.now.entries in
    let last : optional_member (codes "expansion") (expansion_row (span_within c.args.inner)) ms ≡ Ok c.in_ok-optional_by.field-0 = search rules in
    record {
      exact =
          rw (
            c.in_ok-fields.ensures.exact,
            c.in_ok-required_member.ensures.exact,
            c.in_ok-required_member-2.ensures.exact,
            c.in_ok-required_member-3.ensures.exact,
            c.in_ok-required_member-4.ensures.exact,
            c.in_ok-required_member-5.ensures.exact,
            c.in_ok-required_member-6.ensures.exact,
            c.in_ok-required_member-7.ensures.exact,
            c.in_ok-required_member-8.ensures.exact,
            c.in_ok-required_member-9.ensures.exact,
            c.in_ok-optional_member.ensures.exact,
            c.in_ok-optional_member-2.ensures.exact,
            c.in_ok-optional_member-3.ensures.exact,
            last,
          ) refl;
    }
