use Rattle.std.proofs.Common.{string_bytes}
use Rattle.live_page.specs.GeneratedScript.{deletion_text}
use Rattle.live_page.proofs.ScriptLemmas.{text_more, text_none}
use Rattle.live_page.proofs.generated_lines.push_deletions.Goals as goal

pub loop-number-init : goal.loop-number-init
loop-number-init c = text_none deletion_text (string_bytes c.args.script.now)

pub loop-number-preserved : goal.loop-number-preserved
loop-number-preserved c =
    text_more deletion_text c.loop-number.number (string_bytes c.args.script.now) (string_bytes c.loop-number.script) (string_bytes c.push_deletion.new.script) c.loop-number.invariant c.in_ok-push_deletion.ensures
