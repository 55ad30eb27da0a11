use Rattle.std.proofs.Common.{◌≡◌, ◌∙◌, ap, ◌++◌, map, rules}
use Rattle.std.proofs.lemmas.List.{map-append}
use Rattle.crate_graph_values.specs.Env.{pair_text}
use Rattle.crate_graph_values.proofs.EnvLemmas.{takes_front}
use Rattle.crate_graph_values.proofs.env.Env.extend.Goals as goal
use Rattle.base_values.proofs.Basics.{on_err}

pub returns-in_err-set-clause-err : goal.returns-in_err-set-clause-err
returns-in_err-set-clause-err c =
    let done = c.loop-name.yielded in
    let left = c.loop-name.name-iterator.rest.items in
    let items : c.args.pairs.items ≡ done ++ left = search rules in
    let whole = ap (map pair_text) items ∙ map-append pair_text done left in
    on_err c.from_residual.result _
    (takes_front _ _ _ (map pair_text done) (map pair_text left) whole (c.in_err-set.ensures.unchanged ∙ c.loop-name.invariant.done))
