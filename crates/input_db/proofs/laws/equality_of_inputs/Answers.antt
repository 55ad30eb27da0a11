use Rattle.std.proofs.Common.{refl}
use Rattle.input_db.proofs.ContentLaws.{atom_lists_equal, crates_equal}
use Rattle.input_db.proofs.Contents.{inputs_compare}
use Rattle.input_db.proofs.Equality.{input_itself}
use Rattle.input_db.proofs.laws.equality_of_inputs.Goals as goal

pub returns : goal.returns
returns c = inputs_compare _ _ _ _ _ _ (λ x y. refl) crates_equal c.equality_of_extra_data_is_content.ensures c.equality_of_workspace_data_is_content.ensures
    atom_lists_equal c.equality_of_environments_is_content.ensures c.equality_of_durabilities.ensures input_itself
