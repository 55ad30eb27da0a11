use Rattle.std.proofs.Common.{refl}
use Rattle.crate_graph_values.specs.Laws.{renamed_dependency}
use Rattle.crate_graph_values.specs.contracts.crate_data.DependencyPartialEq.TheImpl as dep
use Rattle.crate_graph_values.proofs.LawLemmas.{pointwise-renamed}
use Rattle.crate_graph_values.proofs.laws.renaming_keeps_crates.Goals as goal

pub returns : goal.returns
returns g c = λ f keeps x y.
    let old = (dep.ghosts g.row.A g.A.PartialEq g.A.PartialEq-dict).eq in
    let new = (dep.ghosts g.row.B g.B.PartialEq g.B.PartialEq-dict).eq in
    let same = pointwise-renamed old new (renamed_dependency f) (c.renaming_keeps_dependencies.ensures f keeps) x.dependencies y.dependencies in
    rw same refl
