use Rattle.std.proofs.Common.{◌≡◌, List, [], ◌∷◌, ◌++◌, Ok, ap, append_assoc, refl, rules, sym, ◌∙◌}
use Rattle.std.proofs.lemmas.Result.{err_from_is_err_and}
use Rattle.cargo_meta_values.specs.declared.resolve.NodeDep.{NodeDep}
use Rattle.pm_cargo_reading.specs.Nodes.{take_dependency}
use Rattle.pm_cargo_reading.proofs.ReadingLemmas.{take_each-more, take_each-none, take_each-stopped}
use Rattle.pm_cargo_reading.proofs.nodes.dependencies_of.Goals as goal

pub loop-dep-init : goal.loop-dep-init
loop-dep-init c = record {
  done = take_each-none (take_dependency c.args.packages.now) [] ∙ ap Ok (sym c.new-dependencies.ensures.items);
  all = refl;
}

pub loop-dep-preserved : goal.loop-dep-preserved
loop-dep-preserved c =
    let before = c.loop-dep.invariant in
    record {
      done = take_each-more (take_dependency c.args.packages.now) [] c.loop-dep.dependencies.items c.push_dependency.new.dependencies.items c.loop-dep.yielded c.in-Some.dep before.done
          c.in_ok-push_dependency.ensures;
      all = before.all
          ∙ ap (λ (items : List NodeDep). c.loop-dep.yielded ++ items) c.in-Some.ensures.steps.0
          ∙ sym (append_assoc c.loop-dep.yielded (c.in-Some.dep ∷ []) c.next.new.self.rest.items);
    }

pub returns-in_err-push_dependency : goal.returns-in_err-push_dependency
returns-in_err-push_dependency c =
    let before = c.loop-dep.invariant in
    let p = err_from_is_err_and c.from_residual.result c.from_residual.ensures.1 in
    let all : c.args.deps.items ≡ c.into_iter-dep-iterator.result.rest.items = search rules in
    rw (p.1, p.2) (take_each-stopped (take_dependency c.args.packages.now) _
    [] c.loop-dep.dependencies.items c.args.deps.items c.loop-dep.yielded c.in-Some.dep c.next.new.self.rest.items
    (all ∙ before.all ∙ ap (λ (items : List NodeDep). c.loop-dep.yielded ++ items) c.in-Some.ensures.steps.0) before.done
    c.in_err-push_dependency.ensures)
