use Rattle.std.proofs.Common.{◌∙◌, ap}
use Rattle.pm_lower_crates.specs.Lowering.{dep_seen}
use Rattle.pm_lower_crates.specs.WantedEdges.{to_public}
use Rattle.pm_lower_crates.proofs.PublicLemmas.{public_all, public_more}
use Rattle.pm_lower_crates.proofs.public_edges.add_public.Goals as goal

pub loop-dep-preserved : goal.loop-dep-preserved
loop-dep-preserved c =
    public_more c.args.source c.args.edges.now.items c.rows-dep-items.result.now c.loop-dep.dep-index c.loop-dep.edges.items c.push.new.self.items c.dep-item.result c.of_dep.result c.loop-dep-test.true
    c.dep-item.is (c.of_dep.ensures ∙ ap (λ d. to_public c.args.source (dep_seen d)) c.in_ok-try_clone.ensures) c.loop-dep.invariant c.in_ok-push.ensures.items

pub returns : goal.returns
returns c =
    public_all c.args.source c.args.edges.now.items c.rows-dep-items.result.now c.loop-dep.dep-index c.args.public.now.rows c.loop-dep.edges.items c.rows-dep-items.ensures c.loop-dep-test.false
    c.loop-dep.invariant
