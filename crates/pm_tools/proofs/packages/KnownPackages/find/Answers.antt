use Rattle.std.proofs.Common.{◌≡◌, ◌<◌, ◌∙◌, IfSome, ap, subst, sym}
use Rattle.std.proofs.lemmas.List.{length-map}
use Rattle.std.specs.Borrow.{Bor}
use Rattle.base_text_paths.specs.Arena.{number_of}
use Rattle.base_values.specs.ByText.{value_at}
use Rattle.pm_tools.specs.Packages.{lent_packages}
use Rattle.pm_cargo_packages.specs.declared.package.PackageData.{PackageData}
use Rattle.pm_tools.proofs.PackageLemmas.{found_within}
use Rattle.pm_tools.proofs.packages.KnownPackages.find.Goals as goal

pub returns-clause-within : goal.returns-clause-within
returns-clause-within c =
    let known = c.args.self.now in
    let at : value_at c.args.id.now.repr known.by_id ≡ c.copied.result = sym (c.copied.ensures ∙ c.get.ensures ∙ ap (λ text. value_at text known.by_id) c.as_str.ensures) in
    subst (λ n. IfSome c.copied.result (λ found. number_of found < n)) (length-map known.packages (λ (p : Bor PackageData). p.now))
    (found_within (lent_packages known.packages) known.by_id c.args.id.now.repr c.copied.result known.index at)
