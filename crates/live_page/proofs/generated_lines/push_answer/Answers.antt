use Rattle.serde_json.specs.View.{view}
use Rattle.live_page.proofs.ScriptLemmas.{answer-no_float}
use Rattle.live_page.proofs.generated_lines.push_answer.Goals as goal

pub push_line-requires : goal.push_line-requires
push_line-requires c = answer-no_float c.args.count (view c.in_ok-value.value) c.in_ok-value.ensures
