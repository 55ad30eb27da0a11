use Rattle.std.proofs.Common.{◌<◌, length, ap, arith}
use Rattle.base_text_paths.specs.Arena.{number_of}
use Rattle.crate_graph.proofs.GraphLemmas.{length-with_dependency}
use Rattle.pm_lower_crates.proofs.LoweredLemmas.{length_lowered, lowered_kept, lowered_dropped}
use Rattle.pm_lower_crates.proofs.keeping.keep_edge.Goals as goal

pub returns-in-Ok-clause-count : goal.returns-in-Ok-clause-count
returns-in-Ok-clause-count c =
    let from : number_of c.into_parts-dep.result.0 < length c.args.graph.now.crates = omega (arith, c.requires.source, c.into_parts-dep.ensures.source) in
    length-with_dependency c.args.graph.now.crates c.add_dep.new.self.crates (number_of c.into_parts-dep.result.0) c.into_parts-dep.result.1 from c.in-Ok.ensures.added.crates

pub returns-in-Ok-clause-keeps : goal.returns-in-Ok-clause-keeps
returns-in-Ok-clause-keeps c = λ before bare want low.
    lowered_kept before bare want c.args.graph.now.crates c.add_dep.new.self.crates c.args.edge (number_of c.into_parts-dep.result.0) c.into_parts-dep.result.1 low c.into_parts-dep.ensures.source c.into_parts-dep.ensures.dep
    (omega (arith, c.requires.source, length_lowered bare low.kept c.args.graph.now.crates low.crates_are)) c.in-Ok.ensures.apart c.in-Ok.ensures.added.crates

pub returns-in-Err-Cyclic-clause-keeps : goal.returns-in-Err-Cyclic-clause-keeps
returns-in-Err-Cyclic-clause-keeps c = λ before bare want low.
    lowered_dropped before bare want c.args.graph.now.crates c.add_dep.new.self.crates c.args.edge (number_of c.into_parts-dep.result.0) c.into_parts-dep.result.1 low c.into_parts-dep.ensures.source c.into_parts-dep.ensures.dep
    (rw c.in-Err-Cyclic.field-0-is at c.in-Err-Cyclic.ensures.cyclic) (ap (λ g. g.crates) c.in-Err-Cyclic.ensures.unchanged)
