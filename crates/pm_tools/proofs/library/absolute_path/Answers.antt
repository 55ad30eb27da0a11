use Rattle.std.proofs.Common.{Err, ap}
use Rattle.pm_tools.proofs.LibraryLemmas.{absolute_is, relative_is}
use Rattle.pm_tools.proofs.library.absolute_path.Goals as goal
use Rattle.base_text_paths.proofs.Absolute.{absolute_if, relative_if}

pub returns-in-Ok : goal.returns-in-Ok
returns-in-Ok c = absolute_is c.args.text.now c.in-Ok.path (absolute_if c.args.text.now (λ other. let h = c.in-Ok.ensures.not_absolute.1 other in cc)) c.in-Ok.ensures.ok

pub returns-in_ok-of_str-in-Err-NotAbsolute : goal.returns-in_ok-of_str-in-Err-NotAbsolute
returns-in_ok-of_str-in-Err-NotAbsolute c =
    relative_is c.args.text.now _ (relative_if c.args.text.now (c.in-Err-NotAbsolute.ensures.not_absolute.0 (ap Err c.in-Err-NotAbsolute.field-0-is))) c.in_ok-of_str-in-Err-NotAbsolute.ensures
