-- The roots are few; roots, changes and the graph together are what a flush brings.
use Rattle.std.proofs.Common.{nat_eq, subst}
use Rattle.std.proofs.lemmas.Result.{on_ok_weaker}
use Rattle.std.specs.List.{IsDistinct}
use Rattle.std.specs.Map.{keys_of}
use Rattle.vfs_core.specs.Files.{existing_files}
use Rattle.vfs_sets.specs.Partition.{IsPartition}
use Rattle.live_page.specs.Refresh.{GivesChanges, GivesRoots}
use Rattle.live_page.proofs.Both.{both_kept, gives_crates, refreshes, refreshes_too}
use Rattle.live_page.proofs.Stable.{stable_crates}
use Rattle.live_page.proofs.Taken.{few_roots}
use Rattle.live_page.proofs.refreshing.refresh.Goals as goal

pub give_roots-requires : goal.give_roots-requires
give_roots-requires g c =
    few_roots c.args.roots.now c.args.files.now c.in_ok-sets.sets.items c.in_ok-roots.roots.items c.requires
    (subst (λ r. IsPartition r (existing_files c.args.files.now) c.in_ok-sets.sets.items) c.in_ok-config.ensures c.in_ok-sets.ensures.sets)
    c.in_ok-roots.ensures

pub returns-clause-ok : goal.returns-clause-ok
returns-clause-ok g c =
    on_ok_weaker c.set_graph.result (λ keeps.
    refreshes_too c.args.roots.now c.args.files.now c.args.db.now c.give_changes.new.db c.set_graph.new.db keeps
    (refreshes c.args.roots.now c.args.files.now c.in_ok-sets.sets.items c.args.db.now c.give_roots.new.db c.give_changes.new.db
    (subst (λ r. IsPartition r (existing_files c.args.files.now) c.in_ok-sets.sets.items) c.in_ok-config.ensures c.in_ok-sets.ensures.sets)
    (subst (λ r. GivesRoots r c.args.db.now c.give_roots.new.db) c.in_ok-roots.ensures c.in_ok-give_roots.ensures)
    (subst (λ b. GivesChanges b c.give_roots.new.db c.give_changes.new.db) c.take_changes-changes.ensures.taken c.in_ok-give_changes.ensures.ok)
    (subst (λ b. IsDistinct nat_eq (keys_of b)) c.take_changes-changes.ensures.taken c.give_changes.ensures.distinct)))
    c.set_graph.ensures.beside

pub returns-clause-crates : goal.returns-clause-crates
returns-clause-crates g c =
    on_ok_weaker c.set_graph.result (λ given.
    gives_crates _ c.args.graph c.args.db.now c.give_changes.new.db c.set_graph.new.db
    (both_kept c.in_ok-give_roots.ensures.crates c.in_ok-give_changes.ensures.ok.crates) given)
    c.set_graph.ensures.crates

pub returns-clause-stable : goal.returns-clause-stable
returns-clause-stable g c =
    on_ok_weaker c.set_graph.result (λ given.
    stable_crates _ c.args.graph c.args.db.now c.set_graph.new.db
    (gives_crates _ c.args.graph c.args.db.now c.give_changes.new.db c.set_graph.new.db
    (both_kept c.in_ok-give_roots.ensures.crates c.in_ok-give_changes.ensures.ok.crates) given))
    c.set_graph.ensures.crates
