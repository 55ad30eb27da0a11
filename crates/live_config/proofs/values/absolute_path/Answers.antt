use Rattle.std.proofs.Common.{Err, ap}
use Rattle.live_config.proofs.ValueLemmas.{absolute_path-is, absolute_path-none}
use Rattle.live_config.proofs.values.absolute_path.Goals as goal

pub returns-in-Ok-clause-ok : goal.returns-in-Ok-clause-ok
returns-in-Ok-clause-ok c = absolute_path-is c.args.text.now c.in-Ok.path (λ other. let h = c.in-Ok.ensures.not_absolute.1 other in cc) c.in-Ok.ensures.ok

pub returns-in-Err-NotAbsolute-clause-usage : goal.returns-in-Err-NotAbsolute-clause-usage
returns-in-Err-NotAbsolute-clause-usage c =
    λ _. absolute_path-none c.args.text.now (c.in-Err-NotAbsolute.ensures.not_absolute.0 (ap Err c.in-Err-NotAbsolute.field-0-is))
