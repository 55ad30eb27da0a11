use Rattle.std.proofs.Common.{◌≡◌, ◌+◌, ◌<◌, ◌∷◌, ◌++◌, [], ℕ, List, Some, ◌∙◌, ap, arith, length, refl, subst, sym}
use Rattle.std.proofs.lemmas.List.{length_push}
use Rattle.graph_base.proofs.ListingLemmas.{IsListed, list_begun, list_turned}
use Rattle.graph_base.proofs.table.LabelTable.nodes.Goals as goal

pub loop-next-init : goal.loop-next-init
loop-next-init c =
    subst (λ (ns : List ℕ). IsListed c.args.self.now ns c.lowest-next.result) (sym c.in_ok-nodes.ensures.items)
    (list_begun c.args.self.now c.lowest-next.result c.len.ensures.ranks c.lowest-next.ensures.some c.lowest-next.ensures.none)

pub above-next-requires : goal.above-next-requires
above-next-requires c =
    let is : IsListed c.args.self.now c.loop-next.nodes.items (Some c.in-Some.node) = subst (IsListed c.args.self.now c.loop-next.nodes.items) c.in-Some.is c.loop-next.invariant in
    (is.node c.in-Some.node refl).0

pub loop-next-smaller : goal.loop-next-smaller
loop-next-smaller c =
    let is : IsListed c.args.self.now c.loop-next.nodes.items (Some c.in-Some.node) = subst (IsListed c.args.self.now c.loop-next.nodes.items) c.in-Some.is c.loop-next.invariant in
    let at = is.node c.in-Some.node refl in
    let below : length c.loop-next.nodes.items < length c.args.self.now = omega (arith, at.1, c.len.ensures.ranks.within c.in-Some.node at.0) in
    let long : length c.push.new.self.items ≡ length c.loop-next.nodes.items + 1 = ap length c.in_ok-push.ensures.items ∙ length_push c.loop-next.nodes.items c.in-Some.node in
    omega (arith, below, long)

pub loop-next-preserved : goal.loop-next-preserved
loop-next-preserved c =
    let is : IsListed c.args.self.now c.loop-next.nodes.items (Some c.in-Some.node) = subst (IsListed c.args.self.now c.loop-next.nodes.items) c.in-Some.is c.loop-next.invariant in
    subst (λ (ns : List ℕ). IsListed c.args.self.now ns c.above-next.result) (sym c.in_ok-push.ensures.items)
    (list_turned c.args.self.now c.loop-next.nodes.items c.in-Some.node c.above-next.result c.len.ensures.ranks is c.above-next.ensures.some c.above-next.ensures.none)
