-- The objects are those of the items so far.
use Rattle.std.proofs.Common.{◌≡◌, map}
use Rattle.serde_json.specs.View.{view}
use Rattle.live_page.specs.Page.{entry_data}
use Rattle.live_page.proofs.page_text.entry_values.Given as goal

abbrev pub invariant-loop-entry : goal.invariant-loop-entry
invariant-loop-entry l = map view l.values.items ≡ map entry_data l.yielded
