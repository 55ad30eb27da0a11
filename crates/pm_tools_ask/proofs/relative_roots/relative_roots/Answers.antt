use Rattle.std.proofs.Common.{◌≡◌, ◌∙◌, Some, None, ap, sym, rules}
use Rattle.base_values.specs.ByText.{value_at}
use Rattle.pm_tools_ask.specs.RelativeRoots.{relative_variable}
use Rattle.pm_tools_ask.proofs.RelativeRoots.{one_more, or_none}
use Rattle.pm_tools_ask.proofs.relative_roots.relative_roots.Goals as goal
use Rattle.pm_tools_ask.proofs.relative_roots.relative_roots.Goals.{in-Some-relative_variable+in_ok-note, in_default+in-Some-1, in_default+in-None-1}

pub loop-statement-preserved : goal.loop-statement-preserved
loop-statement-preserved c = λ name.
    let before = c.loop-statement.invariant name in
    elim c.match-relative_variable.branch [
      | in-Some-relative_variable+in_ok-note w ↦
          let variable : relative_variable c.in-Some.statement.keys ≡ Some w.in-Some-relative_variable.name.now = search rules in
          one_more name c.loop-statement.yielded c.in-Some.statement _ _ _ variable before (ap (value_at name) w.roots-is ∙ w.in_ok-note.ensures name)
      | in_default+in-Some-1 w ↦
          let variable : relative_variable c.in-Some.statement.keys ≡ None = search rules in
          one_more name c.loop-statement.yielded c.in-Some.statement _ _ _ variable before (ap (value_at name) w.roots-is ∙ sym (or_none (value_at name c.loop-statement.roots)))
      | in_default+in-None-1 w ↦
          let variable : relative_variable c.in-Some.statement.keys ≡ None = search rules in
          one_more name c.loop-statement.yielded c.in-Some.statement _ _ _ variable before (ap (value_at name) w.roots-is ∙ sym (or_none (value_at name c.loop-statement.roots)))
    ]
