use Rattle.std.proofs.Common.{codes, rules, sym, ◌∙◌}
use Rattle.std.proofs.lemmas.Str.Pattern.{ends_text}
use Rattle.std.specs.Option.{option_copied}
use Rattle.pm_tools_info.specs.StatedTargets.{statement_root}
use Rattle.pm_tools_info.proofs.Targets.{left_alone}
use Rattle.pm_tools_info.proofs.stated_targets.joined_target.Goals.{in_default-via-in-Some+else-ends_with, in_default-via-in_default}
use Rattle.pm_tools_info.proofs.stated_targets.joined_target.Goals as goal

pub returns-in_default : goal.returns-in_default
returns-in_default c =
    elim c.in_default.branch [
      | in_default-via-in-Some+else-ends_with w ↦
          let is = sym (ends_text _ (codes ".json") c.args.target.now w.ends_with.ensures.cases) ∙ w.if-ends_with.false in
          rw (left_alone (statement_root (option_copied c.args.statement) c.args.place) c.args.target.now is) c.of_str-in_default.ensures
      | in_default-via-in_default w ↦ search rules
    ]
