use Rattle.std.proofs.Common.{◌∙◌, List, ℕ, ap, fold}
use Rattle.std.proofs.lemmas.Iterator.Consumers.{YieldsList-at, YieldsList-end}
use Rattle.std.proofs.lemmas.Iterator.Splits.{YieldsList-from_lines}
use Rattle.pm_tools.specs.Outputs.{BuildState, with_line}
use Rattle.pm_tools.proofs.outputs.OutputsBuilder.push_errors.Goals as goal

pub returns : goal.returns
returns c =
    let before : BuildState = c.args.self.now in
    let road = YieldsList-from_lines c.args.err.now c.lines-line-items.ensures.rest in
    let done = YieldsList-end (YieldsList-at c.into_iter-line-iterator.ensures.into_iter_gives road) c.loop-line.yielded _ c.loop-line.yielded_by _ _ c.in-None.is c.next.ensures.steps in
    c.loop-line.invariant ∙ ap (λ (ls : List (List ℕ)). record before { errors = fold with_line before.errors ls }) done.0
