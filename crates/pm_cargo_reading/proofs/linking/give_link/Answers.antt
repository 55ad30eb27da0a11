use Rattle.std.proofs.Common.{◌≡◌, ℕ, ap, get_or, set, sym, ◌∙◌}
use Rattle.base_text_paths.specs.Arena.{number_of}
use Rattle.pm_cargo_reading.specs.Links.{package_with_link}
use Rattle.pm_cargo_reading.proofs.LinkLemmas.{with_link-is}
use Rattle.pm_cargo_reading.proofs.linking.give_link.Goals as goal

pub returns : goal.returns
returns c =
    let packages = c.args.packages.now in
    let link = c.args.link in
    let p = c.index-packages-place.result in
    let place : c.into_raw-place.result ≡ number_of link.source = c.into_raw-place.ensures in
    ap (set packages c.into_raw-place.result) (c.in_ok-give_package.ensures ∙ ap (package_with_link link) (sym c.index-packages-place.is))
    ∙ ap (λ (i : ℕ). set packages i (package_with_link link p)) place
    ∙ sym (with_link-is packages link p c.requires (c.index-packages-place.is ∙ ap (λ (i : ℕ). get_or packages i p) place))
