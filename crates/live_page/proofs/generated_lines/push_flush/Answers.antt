use Rattle.serde_json.specs.View.{view}
use Rattle.live_page.proofs.ScriptLemmas.{flush-no_float}
use Rattle.live_page.proofs.generated_lines.push_flush.Goals as goal

pub push_line-requires : goal.push_line-requires
push_line-requires c = flush-no_float (view c.in_ok-value.value) c.in_ok-value.ensures
