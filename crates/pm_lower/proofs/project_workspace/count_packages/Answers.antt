use Rattle.std.proofs.Common.{◌∙◌, ◌-◌, ◌^◌, ap, length, min}
use Rattle.std.proofs.lemmas.Iterator.Consumers.{YieldsList-at, YieldsList-end, YieldsList-from_first}
use Rattle.std.proofs.lemmas.List.FromFn.{length-range_with_len}
use Rattle.std.specs.List.{range_with_len}
use Rattle.base_text_paths.specs.Arena.{number_of}
use Rattle.pm_lower.proofs.project_workspace.count_packages.Goals as goal

pub returns : goal.returns
returns c =
    let count = length c.args.workspace.now.packages in
    let road = YieldsList-at c.into_iter-iterator.ensures.into_iter_gives (YieldsList-from_first number_of (λ left. left) (range_with_len 0 count) c.packages-items.ensures) in
    let done = YieldsList-end road c.loop.yielded _ c.loop.yielded_by _ _ c.in-None.is c.next.ensures.steps in
    c.loop.invariant ∙ ap (λ n. min n (2 ^ 64 - 1)) (done.1 ∙ length-range_with_len 0 count)
