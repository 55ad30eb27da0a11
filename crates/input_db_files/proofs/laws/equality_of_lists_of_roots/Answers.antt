use Rattle.input_db_files.proofs.LawLemmas.{library_lists_are_equal, local_lists_are_equal}
use Rattle.input_db_files.proofs.laws.equality_of_lists_of_roots.Goals as goal

pub returns-clause-local : goal.returns-clause-local
returns-clause-local c = local_lists_are_equal

pub returns-clause-library : goal.returns-clause-library
returns-clause-library c = library_lists_are_equal
