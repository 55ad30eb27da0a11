use Rattle.base_text_outside.specs.contracts.cfg.CfgAtomPartialEq.TheImpl as atom
use Rattle.base_text_paths.specs.contracts.edition.EditionPartialEq.TheImpl as edition
use Rattle.crate_graph_values.specs.contracts.names.CrateDisplayNamePartialEq.TheImpl as name
use Rattle.pm_json.specs.contracts.dep.DepPartialEq.TheImpl as dep
use Rattle.pm_json.specs.contracts.krate.BuildPartialEq.TheImpl as build
use Rattle.pm_json.proofs.Equalities.{crates_are_equal}
use Rattle.pm_json.proofs.laws.equality_of_crates_is_content.Goals as goal

pub returns : goal.returns
returns c =
    crates_are_equal (name.ghosts).eq (edition.ghosts).eq (dep.ghosts).eq (atom.ghosts).eq (build.ghosts).eq
    c.equality_of_display_names_is_content.ensures c.equality_is_content.ensures.editions c.equality_of_stated_parts_is_content.ensures.dependencies c.equality_is_content.ensures.atoms c.equality_of_builds_is_content.ensures
