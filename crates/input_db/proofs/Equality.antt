-- What the equality of identities and of inputs keeps.
use Rattle.std.proofs.Common.{◌≡◌, true, ◌∙◌}
use Rattle.input_db.specs.Identity.{input_eq, unique_eq}
use Rattle.input_db.specs.contracts.crate_input.CrateInputEq.TheImpl.Laws as inputs
use Rattle.input_db.specs.contracts.crate_input.UniqueCrateDataEq.TheImpl.Laws.{laws-law}
use Rattle.input_db.specs.declared.crate_input.CrateInput.{CrateInput}
use Rattle.input_db.specs.declared.crate_input.UniqueCrateData.{UniqueCrateData}

-- an identity equals itself
pub unique_itself : (x : UniqueCrateData) → unique_eq x x ≡ true
unique_itself x = laws-law.refl x

-- of two equal identities each equals the other
pub unique_turned : (x y : UniqueCrateData) → unique_eq x y ≡ true → unique_eq y x ≡ true
unique_turned x y e = laws-law.symm y x ∙ e

-- an identity that equals one of two equal ones equals the other
pub unique_through : (x y z : UniqueCrateData) → unique_eq x y ≡ true → unique_eq y z ≡ true → unique_eq x z ≡ true
unique_through x y z e f = laws-law.congr x y z e ∙ f

-- an input equals itself
pub input_itself : (x : CrateInput) → input_eq x x ≡ true
input_itself x = inputs.laws-law.refl x
