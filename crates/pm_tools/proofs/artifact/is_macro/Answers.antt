use Rattle.pm_tools.proofs.ArtifactLemmas.{is_macro_test}
use Rattle.pm_tools.proofs.artifact.is_macro.Goals as goal

pub returns : goal.returns
returns c = is_macro_test c.is_proc_macro.result c.args.artifact.now.target.kind c.is_proc_macro.ensures
