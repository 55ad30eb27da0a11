use Rattle.std.proofs.Common.{ap, ◌∙◌}
use Rattle.vfs_sets.specs.FileRoots.{is_local_at}
use Rattle.live_page.proofs.Placed.{root_more}
use Rattle.live_page.proofs.source_roots.source_roots.Goals as goal

pub loop-set-preserved : goal.loop-set-preserved
loop-set-preserved c =
    root_more c.args.roots.now c.loop-set.yielded c.in-Some.set c.loop-set.made.items c.push.new.self.items c.is_local_at-is_local.result c.source_root.result
    c.loop-set.invariant (c.is_local_at-is_local.ensures ∙ ap (is_local_at c.args.roots.now) (c.len-in-loop-set.ensures ∙ c.loop-set.made.ok.0)) c.source_root.ensures c.in_ok-push.ensures.items
