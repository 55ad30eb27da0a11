use Rattle.std.proofs.Common.{◌≡◌, codes, Ok, refl, rules}
use Rattle.serde_json.specs.View.{members_view}
use Rattle.json_fields.specs.Fields.{optional_member}
use Rattle.pm_json.specs.ProjectJsonData.{project_row, project_within}
use Rattle.pm_json.proofs.project_json_data.+project.Goals as goal

pub read_level-returns-in_err-map_member : goal.read_level-returns-in_err-map_member
unfolding project_row
read_level-returns-in_err-map_member t c =
    let ms = members_view c.in_ok-fields.fields.now.entries in
    let inner : optional_member (codes "sysroot_project") (project_within c.args.inner) ms ≡ Ok c.in_ok-optional_by.field-0 = search rules in
    record { exact = rw (c.in_ok-fields.ensures.exact, c.in_ok-optional_member.ensures.exact, c.in_ok-optional_member-2.ensures.exact, inner) (search rules) }

pub read_level-returns-in_err-required_member : goal.read_level-returns-in_err-required_member
unfolding project_row
read_level-returns-in_err-required_member t c =
    let ms = members_view c.in_ok-fields.fields.now.entries in
    let inner : optional_member (codes "sysroot_project") (project_within c.args.inner) ms ≡ Ok c.in_ok-optional_by.field-0 = search rules in
    record {
      exact =
          rw (c.in_ok-fields.ensures.exact, c.in_ok-optional_member.ensures.exact, c.in_ok-optional_member-2.ensures.exact, inner, c.in_ok-map_member.ensures.exact) (search rules);
    }

pub read_level-returns-in_err-list_member : goal.read_level-returns-in_err-list_member
unfolding project_row
read_level-returns-in_err-list_member t c =
    let ms = members_view c.in_ok-fields.fields.now.entries in
    let inner : optional_member (codes "sysroot_project") (project_within c.args.inner) ms ≡ Ok c.in_ok-optional_by.field-0 = search rules in
    record {
      exact =
          rw (c.in_ok-fields.ensures.exact, c.in_ok-optional_member.ensures.exact, c.in_ok-optional_member-2.ensures.exact, inner, c.in_ok-map_member.ensures.exact, c.in_ok-required_member.ensures.exact)
          (search rules);
    }

pub read_level-returns : goal.read_level-returns
unfolding project_row
read_level-returns t c =
    let ms = members_view c.in_ok-fields.fields.now.entries in
    let inner : optional_member (codes "sysroot_project") (project_within c.args.inner) ms ≡ Ok c.in_ok-optional_by.field-0 = search rules in
    record {
      exact =
          rw (c.in_ok-fields.ensures.exact, c.in_ok-optional_member.ensures.exact, c.in_ok-optional_member-2.ensures.exact, inner, c.in_ok-map_member.ensures.exact, c.in_ok-required_member.ensures.exact, c.in_ok-list_member.ensures.exact)
          refl;
    }
