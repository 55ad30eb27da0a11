use Rattle.base_text_paths.proofs.Equalities.{atom_lists, atom_changes}
use Rattle.base_text_paths.proofs.laws.equality_of_cfgs_is_content.Goals as goal

pub returns-clause-options : goal.returns-clause-options
returns-clause-options c = atom_lists _ c.equality_is_content.ensures.atoms

pub returns-clause-diffs : goal.returns-clause-diffs
returns-clause-diffs c = atom_changes _ c.equality_is_content.ensures.atoms
