use Rattle.serde_json.specs.View.{view}
use Rattle.live_page.specs.Generated.{node_data}
use Rattle.live_page.proofs.GeneratedLemmas.{values_more}
use Rattle.live_page.proofs.generated.node_values.Goals as goal

pub loop-number-preserved : goal.loop-number-preserved
loop-number-preserved c =
    values_more view (node_data c.args.count) c.loop-number.number c.loop-number.values.items c.push.new.self.items c.in_ok-node_value.field-0
    c.loop-number.invariant c.in_ok-node_value.ensures c.in_ok-push.ensures.items
