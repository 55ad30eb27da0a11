use Rattle.std.proofs.Common.{◌≡◌, ◌≢◌, ◌≤◌, ◌∙◌, ℕ, List, ap, arith, get_or, rules, subst, sym, true, false}
use Rattle.crate_graph.proofs.WalkLemmas.{IsWalked, walk_over, walk_past}
use Rattle.crate_graph.proofs.walking.unmarked_between.Goals.{then-not-marks-node+else-len-most+in_ok-push, else-not-marks-node}
use Rattle.crate_graph.proofs.walking.unmarked_between.Goals as goal

pub loop-node-preserved : goal.loop-node-preserved
loop-node-preserved c =
    let ranks = c.args.table.now in
    let marks = c.args.marks.now in
    let further : c.loop-node.node ≢ c.args.to = λ same. omega (arith, same, c.loop-node-test.true) in
    let next = c.in-Some.ensures.some in
    let higher : get_or c.args.table.now c.args.from 0 ≤ get_or c.args.table.now c.in-Some.above 0 = omega (arith, c.loop-node.invariant.up, next.higher) in
    elim c.if-not-marks-node.branch [
      | then-not-marks-node+else-len-most+in_ok-push w ↦
          let off : get_or c.args.marks.now c.loop-node.node false ≡ false = search rules in
          record {
            walked = subst (λ (ns : List ℕ). IsWalked marks ranks c.args.from c.args.to c.in-Some.above ns) (sym (ap (λ v. v.items) w.nodes-is ∙ w.in_ok-push.ensures.items))
                (walk_over marks ranks c.args.from c.args.to c.loop-node.node c.in-Some.above c.loop-node.nodes.items c.requires.ranks c.loop-node.invariant.up c.requires.nodes.1 further
                c.loop-node.invariant.walked next off);
            up = higher;
          }
      | else-not-marks-node w ↦
          let on : get_or c.args.marks.now c.loop-node.node false ≡ true = search rules in
          record {
            walked = subst (λ (ns : List ℕ). IsWalked marks ranks c.args.from c.args.to c.in-Some.above ns) (sym (ap (λ v. v.items) w.nodes-is))
                (walk_past marks ranks c.args.from c.args.to c.loop-node.node c.in-Some.above c.loop-node.nodes.items c.requires.ranks c.loop-node.invariant.up c.requires.nodes.1 further
                c.loop-node.invariant.walked next on);
            up = higher;
          }
    ]
