use Rattle.std.proofs.Common.{◌≡◌, Ok, ap, arith, length, subst, sym, ◌∙◌}
use Rattle.std.proofs.lemmas.Result.{err_from_is_err_and}
use Rattle.std.specs.Cmp.{on_total}
use Rattle.std.specs.Cmp.Lexicographic.{nat_list_cmp_total}
use Rattle.std.specs.List.Sorted.{IsSorted}
use Rattle.base_values.specs.Sorted.{sorted}
use Rattle.base_values.proofs.InOrder.{sorted-IsSorted}
use Rattle.cargo_meta_values.specs.declared.names.PackageId.{PackageId}
use Rattle.pm_cargo_reading.specs.declared.contents.Contents.{Contents}
use Rattle.pm_cargo_reading.proofs.ContentsLemmas.{by_repr, contents-read, contents-sorted}
use Rattle.pm_cargo_reading.proofs.ReadingLemmas.{refuses_same}
use Rattle.pm_cargo_reading.proofs.contents.contents_of.Goals as goal

pub take_packages-requires : goal.take_packages-requires
take_packages-requires c =
    let is : c.as_slice.result.now ≡ sorted by_repr c.args.members =
    c.as_slice.ensures.value ∙ c.in_ok-sort_all.ensures.sorted ∙ ap (sorted by_repr) c.into_inner-members.ensures in
    subst (IsSorted by_repr) (sym is) (sorted-IsSorted (on_total (λ (m : PackageId). m.repr) nat_list_cmp_total) c.args.members)

pub returns-in_err-contents-clause-exact : goal.returns-in_err-contents-clause-exact
returns-in_err-contents-clause-exact c =
    let p = err_from_is_err_and c.from_residual-in_err-contents.result c.from_residual-in_err-contents.ensures.1 in
    rw (p.1, p.2) (refuses_same _ _ _
    (contents-read c.args.members c.as_slice.result.now c.args.limits.now c.args.packages c.in_ok-packages.packages.items
    (c.as_slice.ensures.value ∙ c.in_ok-sort_all.ensures.sorted ∙ ap (sorted by_repr) c.into_inner-members.ensures) c.in_ok-packages.ensures)
    c.in_err-contents.ensures.exact)

pub returns-clause-exact : goal.returns-clause-exact
returns-clause-exact c =
    sym (contents-read c.args.members c.as_slice.result.now c.args.limits.now c.args.packages c.in_ok-packages.packages.items
    (c.as_slice.ensures.value ∙ c.in_ok-sort_all.ensures.sorted ∙ ap (sorted by_repr) c.into_inner-members.ensures) c.in_ok-packages.ensures)
    ∙ c.in_ok-contents.ensures.exact ∙ ap Ok (sym c.finish.ensures)

pub returns-clause-sorted : goal.returns-clause-sorted
returns-clause-sorted c =
    contents-sorted c.args.members c.args.limits.now c.finish.result c.args.packages
    (sym (contents-read c.args.members c.as_slice.result.now c.args.limits.now c.args.packages c.in_ok-packages.packages.items
    (c.as_slice.ensures.value ∙ c.in_ok-sort_all.ensures.sorted ∙ ap (sorted by_repr) c.into_inner-members.ensures) c.in_ok-packages.ensures)
    ∙ c.in_ok-contents.ensures.exact ∙ ap Ok (sym c.finish.ensures))

pub returns-clause-short : goal.returns-clause-short
returns-clause-short c = omega (arith, c.in_ok-contents.ensures.short, ap (λ (s : Contents). length s.packages) c.finish.ensures)
