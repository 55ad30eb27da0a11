use Rattle.std.proofs.Common.{codes}
use Rattle.std.proofs.lemmas.Str.Pattern.{starts_text}
use Rattle.pm_cargo_fetch.proofs.options.is_unstable.Goals as goal

-- the text that is looked for
pub returns : goal.returns
returns c = starts_text c.starts_with.result (codes "-Z") c.args.option.now c.starts_with.ensures.cases
