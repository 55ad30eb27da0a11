use Rattle.std.proofs.Common.{codes}
use Rattle.std.proofs.lemmas.Str.Pattern.{ends_text}
use Rattle.pm_cargo_config.proofs.versions.is_json_target.Goals as goal

-- the text that is looked for
pub returns : goal.returns
returns c = ends_text c.ends_with.result (codes ".json") c.args.target.now c.ends_with.ensures.cases
