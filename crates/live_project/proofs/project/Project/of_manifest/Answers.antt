use Rattle.std.proofs.lemmas.Result.{err_from_is_err_and}
use Rattle.live_project.proofs.FewRoots.{is_loaded}
use Rattle.live_project.proofs.LoadLemmas.{names_limit}
use Rattle.live_project.proofs.project.Project.of_manifest.Goals as goal

pub returns-in_err-workspace-clause-limits : goal.returns-in_err-workspace-clause-limits
returns-in_err-workspace-clause-limits c =
    let p = err_from_is_err_and c.from_residual.result c.from_residual.ensures.1 in
    rw (p.1, p.2) (names_limit c.in_err-workspace.field-0.0 c.in_err-workspace.ensures.limits)

pub invariant_of-result : goal.invariant_of-result
invariant_of-result c = is_loaded c.args.sources c.in_ok-workspace.workspace c.requires c.in_ok-workspace.ensures.small
