use Rattle.std.proofs.Common.{◌≡◌, Ok, ap, arith, length, sym, ◌∙◌}
use Rattle.std.proofs.lemmas.Result.{err_from_is_err_and}
use Rattle.pm_cargo_reading.specs.Links.{with_links}
use Rattle.pm_cargo_reading.specs.Nodes.{links_of, nodes_of}
use Rattle.pm_cargo_packages.proofs.UpdateLemmas.{same_slice}
use Rattle.pm_cargo_reading.proofs.LinkedLemmas.{packages-linked, packages-no_links}
use Rattle.pm_cargo_reading.proofs.ReadingLemmas.{refuses_same}
use Rattle.pm_cargo_reading.proofs.WithinLemmas.{links-within}
use Rattle.pm_cargo_reading.proofs.linking.linked_packages.Goals as goal

pub returns-in_err-links : goal.returns-in_err-links
returns-in_err-links c =
    let p = err_from_is_err_and c.from_residual.result c.from_residual.ensures.1 in
    rw (p.1, p.2) (packages-no_links c.args.packages (nodes_of c.args.resolve) _
    (refuses_same _ _ _ (λ i. links_of ((c.as_slice.ensures.value ∙ c.into_inner-packages.ensures) i) (c.nodes_of.ensures i)) c.in_err-links.ensures))

pub give_links-requires : goal.give_links-requires
give_links-requires c = λ k d below.
    let is : links_of c.args.packages (nodes_of c.args.resolve) ≡ Ok c.in_ok-links.links =
    (λ i. links_of (sym (c.as_slice.ensures.value ∙ c.into_inner-packages.ensures) i) (sym c.nodes_of.ensures i)) ∙ c.in_ok-links.ensures in
    omega (
      arith,
      (links-within c.args.packages (nodes_of c.args.resolve) c.in_ok-links.links is k d below).source,
      ap length (c.as_mut_slice.ensures.value ∙ c.into_inner-packages.ensures),
    )

pub returns : goal.returns
returns c =
    let links = c.in_ok-links.links in
    let new = c.give_links.new.packages in
    let is : links_of c.args.packages (nodes_of c.args.resolve) ≡ Ok links =
    (λ i. links_of (sym (c.as_slice.ensures.value ∙ c.into_inner-packages.ensures) i) (sym c.nodes_of.ensures i)) ∙ c.in_ok-links.ensures in
    let done : new ≡ with_links links c.args.packages =
    c.in_ok-give_links.ensures ∙ ap (with_links links) (c.as_mut_slice.ensures.value ∙ c.into_inner-packages.ensures) in
    packages-linked c.args.packages (nodes_of c.args.resolve) links is
    ∙ ap Ok (sym (c.new.ensures
    ∙ same_slice c.into_inner-packages.result.len new c.into_inner-packages.result.items
    (omega (arith, c.give_links.auto.packages, ap length c.as_mut_slice.ensures.value)) (omega (arith, c.give_links.auto.packages, c.as_mut_slice.ensures.len))
    ∙ done))
