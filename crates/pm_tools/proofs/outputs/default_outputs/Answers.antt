use Rattle.std.proofs.Common.{◌∙◌, List, ap, fold, map, sym, ℕ}
use Rattle.std.proofs.lemmas.Iterator.Consumers.{YieldsList-at, YieldsList-end, YieldsList-from_first}
use Rattle.std.proofs.lemmas.List.{length-map}
use Rattle.std.proofs.lemmas.Simd.{map-map}
use Rattle.std.specs.Borrow.{Bor}
use Rattle.std.specs.FinMap.{empty, insert}
use Rattle.std.specs.List.{enumerate_from}
use Rattle.base_text_paths.specs.Arena.{number_of}
use Rattle.pm_cargo_packages.specs.declared.package.PackageData.{PackageData}
use Rattle.pm_cargo.specs.Output.{default_output}
use Rattle.pm_tools.specs.Outputs.{Outputs, default_outputs}
use Rattle.pm_tools.proofs.SharedLemmas.{numbers-enumerate_from}
use Rattle.pm_tools.proofs.outputs.default_outputs.Goals as goal

pub returns : goal.returns
returns c =
    let lent = c.args.packages.now.packages in
    let road = YieldsList-at c.into_iter-number-iterator.ensures.into_iter_gives (YieldsList-from_first (λ item. (number_of item.0, item.1.now)) (λ left. left) (enumerate_from 0 lent) c.iter-number-items.ensures) in
    let done = YieldsList-end road c.loop-number.yielded _ c.loop-number.yielded_by _ _ c.in-None.is c.next.ensures.steps in
    let numbers = sym (map-map (λ (p : ℕ × Bor PackageData). p.0) (λ item. (number_of item.0, item.1.now)) c.loop-number.yielded) ∙ ap (map (λ (p : ℕ × Bor PackageData). p.0)) done.0 ∙ numbers-enumerate_from 0 lent in
    c.loop-number.invariant
    ∙ ap (λ (ns : List ℕ). fold (λ (outputs : Outputs) number. insert outputs number default_output) empty ns) numbers
    ∙ ap default_outputs (sym (length-map lent (λ (q : Bor PackageData). q.now)))
