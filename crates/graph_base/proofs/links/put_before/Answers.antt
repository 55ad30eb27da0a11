use Rattle.std.proofs.Common.{List, ℕ, subst, sym}
use Rattle.std.specs.Prelude.{slice_set}
use Rattle.graph_base.specs.Ring.{IsRing, relinked_prev}
use Rattle.graph_base.proofs.RingLemmas.{moved_ring}
use Rattle.graph_base.proofs.links.put_before.Goals as goal

pub returns-clause-ring : goal.returns-clause-ring
returns-clause-ring c =
    let labels = slice_set c.args.labels.now c.args.node c.args.label in
    let moved = moved_ring c.args.labels.now c.args.next.now c.args.prev.now c.requires.ring c.args.node c.args.mark c.args.label c.requires.fits in
    subst (λ (ps : List ℕ). IsRing labels c.relink.new.next ps) (sym c.relink.ensures.prev)
    (subst (λ (ns : List ℕ). IsRing labels ns (relinked_prev c.args.next.now c.args.prev.now c.args.node c.args.mark)) (sym c.relink.ensures.next) moved)
