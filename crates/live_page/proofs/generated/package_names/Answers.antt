use Rattle.live_page.specs.Generated.{package_name}
use Rattle.live_page.proofs.GeneratedLemmas.{items_more}
use Rattle.live_page.proofs.generated.package_names.Goals as goal

pub loop-number-preserved : goal.loop-number-preserved
loop-number-preserved c =
    items_more package_name c.loop-number.number c.loop-number.names.items c.push.new.self.items c.in_ok-package_name.field-0
    c.loop-number.invariant c.in_ok-package_name.ensures c.in_ok-push.ensures.items
