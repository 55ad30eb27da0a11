use Rattle.crate_graph_values.proofs.laws.order_owes.Goals as goal

pub returns : goal.returns
returns g c = record { total = g.met.T.Ord.total; ties = g.met.T.Ord.matches_eq }
