use Rattle.std.proofs.Common.{◌≡◌, List, [], ◌∷◌, ◌++◌, Ok, ap, append_assoc, refl, rules, sym, ◌∙◌}
use Rattle.std.proofs.lemmas.Result.{err_from_is_err_and}
use Rattle.cargo_meta_values.specs.declared.resolve.Node.{Node}
use Rattle.pm_cargo_reading.specs.Nodes.{take_node}
use Rattle.pm_cargo_reading.proofs.NodeLemmas.{node-added, node-refused}
use Rattle.pm_cargo_reading.proofs.ReadingLemmas.{take_each-more, take_each-none, take_each-stopped}
use Rattle.pm_cargo_reading.proofs.nodes.links_of.Goals as goal

pub loop-node-init : goal.loop-node-init
loop-node-init c = record {
  done = take_each-none (take_node c.args.packages.now) [] ∙ ap Ok (sym c.new-links.ensures.items);
  all = refl;
}

pub loop-node-preserved : goal.loop-node-preserved
loop-node-preserved c =
    let before = c.loop-node.invariant in
    let step = take_node c.args.packages.now in
    record {
      done = take_each-more step [] c.loop-node.links.items c.push.new.self.items c.loop-node.yielded c.in-Some.node before.done
          (node-added c.args.packages.now c.in-Some.node c.loop-node.links.items _ c.in_ok-link_of.ensures ∙ ap Ok (sym c.in_ok-push.ensures.items));
      all = before.all
          ∙ ap (λ (items : List Node). c.loop-node.yielded ++ items) c.in-Some.ensures.steps.0
          ∙ sym (append_assoc c.loop-node.yielded (c.in-Some.node ∷ []) c.next.new.self.rest.items);
    }

pub returns-in_err-link_of : goal.returns-in_err-link_of
returns-in_err-link_of c =
    let before = c.loop-node.invariant in
    let p = err_from_is_err_and c.from_residual.result c.from_residual.ensures.1 in
    let all : c.args.nodes ≡ c.into_iter-node-iterator.result.rest.items = search rules in
    rw (p.1, p.2) (take_each-stopped (take_node c.args.packages.now) _
    [] c.loop-node.links.items c.args.nodes c.loop-node.yielded c.in-Some.node c.next.new.self.rest.items
    (all ∙ before.all ∙ ap (λ (items : List Node). c.loop-node.yielded ++ items) c.in-Some.ensures.steps.0) before.done
    (node-refused c.args.packages.now c.in-Some.node c.loop-node.links.items _ c.in_err-link_of.ensures))
