use Rattle.pm_cargo.proofs.OutputEqualities.{libraries}
use Rattle.pm_cargo.proofs.output_laws.equality_of_libraries_is_content.Goals as goal

pub returns : goal.returns
returns c = libraries
