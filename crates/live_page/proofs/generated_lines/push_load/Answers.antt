use Rattle.std.proofs.Common.{codes}
use Rattle.serde_json.specs.View.{view}
use Rattle.live_page.proofs.ScriptLemmas.{path_event-no_float}
use Rattle.live_page.proofs.generated_lines.push_load.Goals as goal

pub push_line-requires : goal.push_line-requires
push_line-requires c = path_event-no_float (codes "load") (codes "/g/Cargo.toml") (view c.in_ok-value.value) c.in_ok-value.ensures
