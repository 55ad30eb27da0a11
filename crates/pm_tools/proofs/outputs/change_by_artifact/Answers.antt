use Rattle.std.proofs.Common.{◌∙◌, ap, sym}
use Rattle.std.specs.Option.{option_copied_mut}
use Rattle.base_text_paths.specs.Arena.{number_of}
use Rattle.pm_tools.specs.Artifact.{output_after_artifact}
use Rattle.pm_tools.proofs.OutputLemmas.{leaves_at, on_some}
use Rattle.pm_tools.proofs.outputs.change_by_artifact.Goals as goal

pub returns-in-Some : goal.returns-in-Some
returns-in-Some c =
    leaves_at c.take_artifact.result (output_after_artifact c.args.artifact.now) c.args.outputs.now (c.get_mut.follows.lender c.take_artifact.new.output) (number_of c.args.«package») c.in-Some.output.now c.take_artifact.new.output
    (sym c.get_mut.ensures.value ∙ ap option_copied_mut c.in-Some.is) (on_some c.get_mut.result c.in-Some.output _ c.in-Some.is (c.get_mut.follows.holds c.take_artifact.new.output)) c.take_artifact.ensures
