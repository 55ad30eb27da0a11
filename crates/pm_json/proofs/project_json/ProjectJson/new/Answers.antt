use Rattle.base_text_paths.specs.AbsPath.{abs_text}
use Rattle.pm_json.proofs.LimitLemmas.{few_given, limit_given}
use Rattle.pm_json.proofs.project_json.ProjectJson.new.Goals as goal

pub returns-clause-limits : goal.returns-clause-limits
returns-clause-limits c =
    limit_given c.args.limits.now.crates c.args.json_data c.args.manifest (abs_text c.args.base) c.project_on_base.result c.project_on_base.ensures.exact

pub returns-clause-few : goal.returns-clause-few
returns-clause-few c =
    few_given c.args.limits.now.crates c.args.json_data c.args.manifest (abs_text c.args.base) c.project_on_base.result c.project_on_base.ensures.exact
