-- Why a graph takes no more crates, as it is printed: the name of the variant.
use Rattle.std.specs.Prelude.{ℕ, List, codes}
use Rattle.crate_graph.specs.declared.graph.GraphError.{GraphError}
use Rattle.crate_graph.specs.declared.graph.GraphError.TheVariants.{TooMany, OutOfMemory}

-- the name of a variant
abbrev pub graph_error_text : GraphError → List ℕ
graph_error_text TooMany = codes "TooMany"
graph_error_text OutOfMemory = codes "OutOfMemory"
