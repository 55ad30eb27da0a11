use Rattle.std.proofs.Common.{ap, ◌∙◌}
use Rattle.serde_json.specs.View.{view}
use Rattle.live_page.specs.Generated.{package_data, package_of}
use Rattle.live_page.proofs.GeneratedLemmas.{values_more}
use Rattle.live_page.proofs.generated.package_values.Goals as goal

pub loop-number-preserved : goal.loop-number-preserved
loop-number-preserved c =
    values_more view (λ n. package_data (package_of n)) c.loop-number.number c.loop-number.values.items c.push.new.self.items c.in_ok-package_value.field-0
    c.loop-number.invariant (c.in_ok-package_value.ensures ∙ ap package_data c.in_ok-package.ensures) c.in_ok-push.ensures.items
