use Rattle.vfs_sets.specs.FileSet.{files_eq}
use Rattle.input_db_files.proofs.LawLemmas.{roots_are_equal}
use Rattle.input_db_files.proofs.laws.equality_of_source_roots.Goals as goal

pub returns : goal.returns
returns c = roots_are_equal files_eq c.equality_of_sets_is_content.ensures
