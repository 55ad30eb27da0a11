use Rattle.std.proofs.Common.{◌≡◌, ◌+◌, ◌<◌, Some, arith, get_or, length, set, subst, sym, take, true, ◌∙◌}
use Rattle.std.specs.List.{Contains}
use Rattle.std.proofs.lemmas.List.{get_or_default}
use Rattle.pm_cargo_members.specs.SharedLists.{SharesList}
use Rattle.pm_cargo_members.proofs.EntryLemmas.{Contains-from_search}
use Rattle.pm_cargo_members.proofs.MemberLemmas.{SharesList-more, SharesList-passed}
use Rattle.pm_cargo_members.proofs.members.share_list.Goals.{then-is_ok+in_ok-try_clone+in-Some-1, then-is_ok+in_ok-try_clone+in-None-1, else-is_ok}
use Rattle.pm_cargo_members.proofs.members.share_list.Goals as goal

pub loop-node-preserved : goal.loop-node-preserved
loop-node-preserved c =
    let nodes = c.args.nodes.now in
    let i = c.loop-node.node-index in
    let n = get_or nodes i 0 in
    let closure = c.args.closure.now in
    let old = c.args.lists.now.items in
    let now = c.loop-node.lists.items in
    let is : n ≡ get_or nodes i n = get_or_default nodes i 0 n c.loop-node-test.true in
    let below : n < length now = omega (arith, c.requires i 0 c.loop-node-test.true, c.loop-node.invariant.long) in
    let found : c.is_ok.result ≡ true → Contains closure.places n = λ ok.
    subst (λ l. Contains l n) c.as_slice.ensures
    (Contains-from_search c.as_slice.result.now n c.binary_search.result c.binary_search.ensures.bound c.binary_search.ensures.ok (sym c.is_ok.ensures.value ∙ ok)) in
    elim c.if-is_ok.branch [
      | then-is_ok+in_ok-try_clone+in-Some-1 w ↦
          let more = SharesList-more closure old nodes i now c.loop-node.invariant n c.loop-node-test.true is (found w.if-is_ok.true) below in
          subst (λ v. SharesList (take (i + 1) nodes) closure old v.items) (sym w.lists-is)
          (subst (λ ids. SharesList (take (i + 1) nodes) closure old (set now n (Some ids))) (sym w.in_ok-try_clone.ensures) more)
      | then-is_ok+in_ok-try_clone+in-None-1 w ↦
          let more = SharesList-more closure old nodes i now c.loop-node.invariant n c.loop-node-test.true is (found w.if-is_ok.true) below in
          subst (λ v. SharesList (take (i + 1) nodes) closure old v.items) (sym w.lists-is)
          (subst (λ ids. SharesList (take (i + 1) nodes) closure old (set now n (Some ids))) (sym w.in_ok-try_clone.ensures) more)
      | else-is_ok w ↦
          subst (λ v. SharesList (take (i + 1) nodes) closure old v.items) (sym w.lists-is) (SharesList-passed closure old nodes i now c.loop-node.invariant)
    ]
