use Rattle.std.proofs.Common.{◌∙◌, ap, subst, sym}
use Rattle.live_project.specs.Project.{Loads, manifest_named}
use Rattle.live_project.proofs.LoadLemmas.{reads_none, reads_some}
use Rattle.live_project.proofs.project.Project.load.Goals as goal

pub returns-in-None-clause-loads : goal.returns-in-None-clause-loads
returns-in-None-clause-loads c =
    reads_none c.args.sources (sym c.in-None.is ∙ c.in_ok-named.ensures ∙ ap manifest_named c.as_str.ensures)

pub returns-in-Some-clause-loads : goal.returns-in-Some-clause-loads
returns-in-Some-clause-loads c =
    subst (λ reading. Loads c.args.sources reading c.of_manifest.result)
    (reads_some c.args.sources c.in-Some.manifest (sym c.in-Some.is ∙ c.in_ok-named.ensures ∙ ap manifest_named c.as_str.ensures))
    c.of_manifest.ensures.loads
