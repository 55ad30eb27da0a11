use Rattle.std.proofs.Common.{Err, ap, sym, ◌∙◌}
use Rattle.live_project.proofs.LoadLemmas.{absolute_named, relative_named}
use Rattle.live_project.proofs.project.manifest_named.Goals as goal
use Rattle.base_text_paths.proofs.Absolute.{absolute_if, relative_if}

-- the path is that of the text, and names what the code found
pub returns-in-Ok-from_manifest_file : goal.returns-in-Ok-from_manifest_file
returns-in-Ok-from_manifest_file c =
    let absolute = absolute_if c.args.text.now (λ other. let h = c.in-Ok.ensures.not_absolute.1 other in cc) in
    sym c.in-Ok-from_manifest_file.ensures.ok
    ∙ absolute_named c.args.text.now c.in-Ok.path absolute c.in-Ok.ensures.ok

pub returns : goal.returns
returns c =
    let absolute = absolute_if c.args.text.now (λ other. let h = c.in-Ok.ensures.not_absolute.1 other in cc) in
    sym c.in-Err.ensures.bad ∙ absolute_named c.args.text.now c.in-Ok.path absolute c.in-Ok.ensures.ok

-- a text that begins with no slash names none
pub returns-in-Err-NotAbsolute : goal.returns-in-Err-NotAbsolute
returns-in-Err-NotAbsolute c =
    relative_named c.args.text.now (relative_if c.args.text.now (c.in-Err-NotAbsolute.ensures.not_absolute.0 (ap Err c.in-Err-NotAbsolute.field-0-is)))
