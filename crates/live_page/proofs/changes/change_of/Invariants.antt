-- The changes taken so far, and those that are to be taken of the rest, are those of the batch.
use Rattle.std.proofs.Common.{◌≡◌, ◌++◌, [], None}
use Rattle.live_page.specs.Refresh.{changes_taken}
use Rattle.live_page.proofs.changes.change_of.Given as goal

abbrev pub invariant-loop-file : goal.invariant-loop-file
invariant-loop-file l =
    (l.change.roots ≡ None)
    × (l.change.crate_graph ≡ None)
    × (l.change.files_changed ++ changes_taken l.db.files [] l.file-iterator ≡ changes_taken l.db.files [] l.fn.changes.entries)
