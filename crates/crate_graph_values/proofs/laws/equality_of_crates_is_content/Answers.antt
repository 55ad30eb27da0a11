use Rattle.crate_graph_values.specs.contracts.crate_data.DependencyPartialEq.TheImpl as dep
use Rattle.crate_graph_values.specs.contracts.origin.CrateOriginPartialEq.TheImpl as origin
use Rattle.crate_graph_values.specs.contracts.target_kind.TargetKindPartialEq.TheImpl as kind
use Rattle.base_text_paths.specs.contracts.edition.EditionPartialEq.TheImpl as edition
use Rattle.crate_graph_values.proofs.LawLemmas.{crates_are_equal}
use Rattle.crate_graph_values.proofs.laws.equality_of_crates_is_content.Goals as goal

pub returns : goal.returns
returns g c = λ tells.
    crates_are_equal (dep.ghosts g.row.Id g.Id.PartialEq g.Id.PartialEq-dict).eq (edition.ghosts).eq (origin.ghosts).eq (kind.ghosts).eq
    (c.equality_of_dependencies_is_content.ensures tells) c.equality_is_content.ensures.editions c.equality_of_origins_is_content.ensures.origins c.equality_of_kinds_is_content.ensures
