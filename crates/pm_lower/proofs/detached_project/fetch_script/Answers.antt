use Rattle.pm_lower_load.specs.Metadata.{metadata_answer}
use Rattle.pm_lower.proofs.DetachedLemmas.{metadata-fetched}
use Rattle.pm_tools_ask.specs.Ask.{means_of}
use Rattle.pm_lower.proofs.detached_project.fetch_script.Goals as goal

pub returns-in-Ok : goal.returns-in-Ok
returns-in-Ok g c =
    metadata-fetched (metadata_answer c.args.sysroot.now c.args.file.now c.args.config.now c.args.answers.now (means_of g.R.Runner.answers g.T.Tree.files c.args.ask.now))
    c.in-Ok.metadata c.in-Ok.ensures.answer
