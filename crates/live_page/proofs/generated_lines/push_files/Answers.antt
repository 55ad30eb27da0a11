use Rattle.std.proofs.Common.{string_bytes}
use Rattle.live_page.specs.GeneratedScript.{data_line, file_data}
use Rattle.live_page.proofs.ScriptLemmas.{text_more, text_none}
use Rattle.live_page.proofs.generated_lines.push_files.Goals as goal

pub loop-number-init : goal.loop-number-init
loop-number-init c = text_none (λ n. data_line (file_data n)) (string_bytes c.args.script.now)

pub loop-number-preserved : goal.loop-number-preserved
loop-number-preserved c =
    text_more (λ n. data_line (file_data n)) c.loop-number.number (string_bytes c.args.script.now) (string_bytes c.loop-number.script) (string_bytes c.push_file.new.script) c.loop-number.invariant c.in_ok-push_file.ensures
