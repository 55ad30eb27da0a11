-- The sets so far are those of the source roots so far.
use Rattle.std.proofs.Common.{◌≡◌, map}
use Rattle.std.specs.List.{filter_map}
use Rattle.serde_json.specs.View.{view}
use Rattle.live_page.specs.Page.{root_shown, set_shown}
use Rattle.live_page.proofs.page_text.sets_of.Given as goal

abbrev pub invariant-loop-id : goal.invariant-loop-id
invariant-loop-id l = map view l.sets.items ≡ map set_shown (filter_map (root_shown l.db) l.yielded)
