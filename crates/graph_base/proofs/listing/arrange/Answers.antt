use Rattle.std.proofs.Common.{◌≡◌, arith, length, subst}
use Rattle.graph_base.proofs.ListingLemmas.{AreArranged, arranged_all}
use Rattle.graph_base.proofs.listing.arrange.Goals as goal

pub returns-clause-nodes : goal.returns-clause-nodes
returns-clause-nodes c =
    let all : c.loop-place.place ≡ length c.args.nodes.now = omega (arith, c.loop-place-test.false, c.loop-place.auto.place-end) in
    arranged_all c.args.nodes.now c.loop-place.table c.requires.each (subst (AreArranged c.args.nodes.now c.loop-place.table) all c.loop-place.invariant.arranged)
