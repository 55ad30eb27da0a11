use Rattle.std.proofs.Common.{◌+◌, length, sym, subst, ◌∙◌}
use Rattle.std.proofs.lemmas.Option.{slice_get_read}
use Rattle.std.proofs.Common.{arith, refl, ◌<◌}
use Rattle.pm_cargo_members.specs.SharedLists.{AreClosures}
use Rattle.pm_cargo_members.proofs.MemberLemmas.{AreClosures-some}
use Rattle.pm_cargo_members.proofs.members.all_closures.Goals.{then-is_none+in_ok-list_closure, else-is_none}
use Rattle.pm_cargo_members.proofs.members.all_closures.Goals as goal

pub loop-node-preserved : goal.loop-node-preserved
loop-node-preserved c = elim c.if-is_none.branch [
  | then-is_none+in_ok-list_closure w ↦ record {
    closures = subst (λ v. AreClosures c.args.graph.now (c.loop-node.node + 1) v.items) (sym w.lists-is) w.in_ok-list_closure.ensures.lists;
    empty = w.trail-is ∙ w.in_ok-list_closure.ensures.empty;
  }
  | else-is_none w ↦
      let graph = c.args.graph.now in
      let node = c.loop-node.node in
      let lists = c.loop-node.lists.items in
      let list = c.index.result.now in
      let closures = c.loop-node.invariant.closures in
      let below : node < length lists = omega (arith, c.loop-node-test.true, c.len-count.ensures.len, closures.long) in
      let is = slice_get_read lists (length lists) node list refl below c.index.ensures in
      record {
        closures = subst (λ v. AreClosures graph (node + 1) v.items) (sym w.lists-is) (AreClosures-some graph node lists list w.if-is_none.ensures is closures);
        empty = w.trail-is ∙ c.loop-node.invariant.empty;
      }
]
