-- The texts so far are those of the files so far.
use Rattle.std.proofs.Common.{◌≡◌}
use Rattle.std.specs.List.{filter_map}
use Rattle.live_page.specs.Page.{path_shown}
use Rattle.live_page.proofs.page_text.texts_of.Given as goal

abbrev pub invariant-loop-file : goal.invariant-loop-file
invariant-loop-file l = l.texts.items ≡ filter_map (path_shown l.root) l.yielded
