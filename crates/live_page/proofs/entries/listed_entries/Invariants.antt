-- The entries so far are those of the crates so far.
use Rattle.std.proofs.Common.{◌≡◌, take}
use Rattle.std.specs.List.{filter_map}
use Rattle.live_page.specs.Entries.{entry_in, path_in}
use Rattle.live_page.proofs.entries.listed_entries.Given as goal

abbrev pub invariant-loop-krate : goal.invariant-loop-krate
invariant-loop-krate l = l.entries.items ≡ filter_map (entry_in (path_in l.db.files) l.db.crates) (take l.krate-index l.krate-items)
