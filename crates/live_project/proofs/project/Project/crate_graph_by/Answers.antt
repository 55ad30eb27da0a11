use Rattle.live_project.proofs.project.Project.crate_graph_by.Goals as goal

pub returns-clause-missing : goal.returns-clause-missing
returns-clause-missing g c = rw (← c.self.view_is) c.in_ok-found.ensures.missing
