use Rattle.std.proofs.Common.{◌≡◌, ◌∙◌, ◌++◌, map, rules}
use Rattle.base_values.specs.ByText.{text_entries}
use Rattle.crate_graph_values.proofs.EnvLemmas.{seen_text, takes_front}
use Rattle.crate_graph_values.proofs.env.Env.extend_from_other.Goals as goal
use Rattle.base_values.proofs.Basics.{on_err}

pub returns-in_err-clone-clause-err : goal.returns-in_err-clone-clause-err
returns-in_err-clone-clause-err c =
    let done = map seen_text c.loop-name.yielded in
    let left = text_entries c.loop-name.name-iterator in
    let all : c.args.other.now ≡ done ++ left = search rules in
    on_err c.from_residual.result _ (takes_front _ _ _ done left all c.loop-name.invariant.2.done)

pub returns-in_err-try_clone-clause-err : goal.returns-in_err-try_clone-clause-err
returns-in_err-try_clone-clause-err c =
    let done = map seen_text c.loop-name.yielded in
    let left = text_entries c.loop-name.name-iterator in
    let all : c.args.other.now ≡ done ++ left = search rules in
    on_err c.from_residual-in_err-try_clone.result _ (takes_front _ _ _ done left all c.loop-name.invariant.2.done)

pub returns-in_err-set-clause-err : goal.returns-in_err-set-clause-err
returns-in_err-set-clause-err c =
    let done = map seen_text c.loop-name.yielded in
    let left = text_entries c.loop-name.name-iterator in
    let all : c.args.other.now ≡ done ++ left = search rules in
    on_err c.from_residual-in_err-set.result _ (takes_front _ _ _ done left all (c.in_err-set.ensures.unchanged ∙ c.loop-name.invariant.2.done))
