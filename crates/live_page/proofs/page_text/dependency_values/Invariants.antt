-- The objects are those of the items so far.
use Rattle.std.proofs.Common.{◌≡◌, map}
use Rattle.serde_json.specs.View.{view}
use Rattle.live_page.specs.Page.{dependency_entry_data}
use Rattle.live_page.proofs.page_text.dependency_values.Given as goal

abbrev pub invariant-loop-dep : goal.invariant-loop-dep
invariant-loop-dep l = map view l.values.items ≡ map dependency_entry_data l.yielded
