use Rattle.input_db_files.specs.contracts.durability.DurabilityPartialEq.TheImpl as durability
use Rattle.input_db_files.specs.contracts.source_root.SourceRootPartialEq.TheImpl as root
use Rattle.input_db_files.proofs.LawLemmas.{held_roots_are_equal, places_are_equal, texts_are_equal}
use Rattle.input_db_files.proofs.laws.equality_of_held_values.Goals as goal

pub returns-clause-texts : goal.returns-clause-texts
returns-clause-texts c = texts_are_equal (durability.ghosts).eq c.equality_of_durabilities.ensures

pub returns-clause-places : goal.returns-clause-places
returns-clause-places c = places_are_equal (durability.ghosts).eq c.equality_of_durabilities.ensures

pub returns-clause-roots : goal.returns-clause-roots
returns-clause-roots c =
    held_roots_are_equal (durability.ghosts).eq c.equality_of_durabilities.ensures (root.ghosts).eq c.equality_of_source_roots.ensures
