use Rattle.live_project.proofs.BeginLemmas.{begin_in}
use Rattle.live_project.proofs.project.Project.crate_graph.Goals as goal

pub returns-clause-begins : goal.returns-clause-begins
returns-clause-begins c =
    begin_in c.args.self.now c.args.files.now c.in_ok-loader.loader _ c.crate_graph_by.result c.in_ok-loader.ensures c.crate_graph_by.ensures.lowers
