use Rattle.std.proofs.Common.{List, ◌∙◌, ◌++◌, ap, sym, [], ◌∷◌, append_assoc, length-append, arith}
use Rattle.input_db_files.specs.declared.source_root.SourceRoot.{SourceRoot}
use Rattle.input_db.proofs.GivenRoots.{given_more}
use Rattle.input_db.proofs.applying.give_each.Goals as goal

pub loop-root-preserved : goal.loop-root-preserved
loop-root-preserved g c =
    let before = c.loop-root.invariant in
    record {
      done = given_more _ _ _ c.loop-root.yielded c.loop-root.number c.in-Some.root before.done before.count
          c.in_ok-give_root.ensures;
      all = before.all
          ∙ ap (λ (items : List SourceRoot). c.loop-root.yielded ++ items) c.in-Some.ensures.steps.0
          ∙ sym (append_assoc c.loop-root.yielded (c.in-Some.root ∷ []) c.next.new.self.rest.items);
      count = omega (arith, before.count, length-append c.loop-root.yielded (c.in-Some.root ∷ []));
    }
