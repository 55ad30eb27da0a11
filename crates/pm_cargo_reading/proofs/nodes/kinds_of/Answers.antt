use Rattle.std.proofs.Common.{[], ◌∷◌, ◌++◌, filter, ap, ◌∙◌}
use Rattle.pm_cargo_packages.specs.declared.package.DepKind.TheVariants.{Normal, Dev, Build}
use Rattle.pm_cargo_reading.specs.Nodes.{has_kind}
use Rattle.pm_cargo_reading.proofs.KindLemmas.{kinds-parts}
use Rattle.pm_cargo_reading.proofs.nodes.kinds_of.Goals as goal

pub returns : goal.returns
returns c =
    let p = filter (has_kind c.args.infos.now) in
    c.in_ok-push_kind-3.ensures
    ∙ ap (λ l. l ++ p (Build ∷ [])) c.in_ok-push_kind-2.ensures
    ∙ ap (λ l. (l ++ p (Dev ∷ [])) ++ p (Build ∷ [])) c.in_ok-push_kind.ensures
    ∙ ap (λ l. ((l ++ p (Normal ∷ [])) ++ p (Dev ∷ [])) ++ p (Build ∷ [])) c.new-kinds.ensures.items
    ∙ kinds-parts c.args.infos.now
