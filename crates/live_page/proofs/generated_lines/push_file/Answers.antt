use Rattle.serde_json.specs.View.{view}
use Rattle.live_page.proofs.ScriptLemmas.{file-no_float}
use Rattle.live_page.proofs.generated_lines.push_file.Goals as goal

pub push_line-requires : goal.push_line-requires
push_line-requires c = file-no_float c.args.number (view c.in_ok-value.value) c.in_ok-value.ensures
