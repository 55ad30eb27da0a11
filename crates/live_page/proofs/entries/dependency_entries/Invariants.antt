-- The dependencies so far are those on crates whose root files have paths.
use Rattle.std.proofs.Common.{◌≡◌, take}
use Rattle.std.specs.List.{filter_map}
use Rattle.live_page.specs.Entries.{dependency_entry, named_number, path_in, root_file_path}
use Rattle.live_page.proofs.entries.dependency_entries.Given as goal

abbrev pub invariant-loop-dep : goal.invariant-loop-dep
invariant-loop-dep l =
    l.found.items
    ≡ filter_map (λ dep. dependency_entry (root_file_path (path_in l.db.files) l.db.crates) (named_number (λ n. n) dep))
    (take l.dep-index l.dep-items)
