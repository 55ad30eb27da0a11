use Rattle.crate_graph_values.proofs.laws.hash_owes.Goals as goal

pub returns : goal.returns
returns g c = g.met.T.Hash.respects_eq
