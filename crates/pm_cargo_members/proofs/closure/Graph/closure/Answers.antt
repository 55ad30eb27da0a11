use Rattle.pm_cargo_members.proofs.closure.Graph.closure.Goals as goal

pub closure_of-requires-clause-in_range : goal.closure_of-requires-clause-in_range
closure_of-requires-clause-in_range c = c.self.invariant.graph.in_range
