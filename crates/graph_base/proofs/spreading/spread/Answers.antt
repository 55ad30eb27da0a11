use Rattle.std.proofs.Common.{◌≡◌, arith, subst}
use Rattle.graph_base.proofs.SpreadingLemmas.{IsSpread, apart_of, run_position, spread_keeps, spread_more}
use Rattle.graph_base.proofs.spreading.spread.Goals as goal

pub loop-k-preserved : goal.loop-k-preserved
loop-k-preserved c =
    let old = c.args.labels.now in
    let next = c.args.next.now in
    let some = run_position old next c.loop-k.labels c.args.first c.args.low c.args.step c.args.count c.loop-k.k c.loop-k.here c.requires.rising c.requires.fits c.loop-k.invariant c.loop-k-test.true in
    spread_more old next c.loop-k.labels c.args.first c.args.low c.args.step c.loop-k.k c.loop-k.here c.requires.rising c.loop-k.invariant some c.requires.fits.rising

pub returns-clause-apart : goal.returns-clause-apart
returns-clause-apart c =
    let all : c.loop-k.k ≡ c.args.count = omega arith in
    let is = subst (λ k. IsSpread c.args.labels.now c.args.next.now c.loop-k.labels c.args.first c.args.low c.args.step k c.loop-k.here) all c.loop-k.invariant in
    apart_of c.args.labels.now c.args.next.now c.loop-k.labels c.args.first c.args.low c.args.step c.args.count c.loop-k.here is
