use Rattle.std.proofs.Common.{ap, ◌∙◌}
use Rattle.graph_base.specs.Reversed.{target_rows}
use Rattle.graph_base.proofs.rows.Rows.as_slice.Goals as goal

pub returns : goal.returns
returns c = ap target_rows c.as_slice.ensures.value ∙ c.self.view_is
