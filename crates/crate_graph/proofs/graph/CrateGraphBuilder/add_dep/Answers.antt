use Rattle.base_text_paths.specs.Arena.{number_of}
use Rattle.crate_graph.specs.Graph.{edges, target_of}
use Rattle.crate_graph.proofs.CyclicLemmas.{cyclic_by_path}
use Rattle.crate_graph.proofs.graph.CrateGraphBuilder.add_dep.Goals as goal

pub returns-clause-cyclic : goal.returns-clause-cyclic
returns-clause-cyclic c =
    cyclic_by_path (edges c.args.self.now.crates) (number_of c.args.from) (target_of c.args.dep) c.add_dep_counted.result c.add_dep_counted.ensures.path
