use Rattle.std.proofs.Common.{◌≡◌, ◌<◌, ◌∙◌, ap, arith, length, subst, sym}
use Rattle.graph_base.specs.Trail.{IsClearable, empty_trail}
use Rattle.crate_graph.proofs.BoundedLemmas.{in_range-bounded, length-bounded}
use Rattle.crate_graph.proofs.search.search_above.Goals as goal

pub search_into-searched-requires-clause-empty : goal.search_into-searched-requires-clause-empty
search_into-searched-requires-clause-empty g c =
    c.requires.empty ∙ ap empty_trail (sym (length-bounded c.args.table.now c.args.from (g.G.Graph.rows c.args.graph.now)))

pub search_into-searched-requires-clause-start : goal.search_into-searched-requires-clause-start
search_into-searched-requires-clause-start g c =
    omega (arith, c.requires.nodes.1, c.requires.long, length-bounded c.args.table.now c.args.from (g.G.Graph.rows c.args.graph.now))

pub search_into-searched-requires-clause-in_range : goal.search_into-searched-requires-clause-in_range
search_into-searched-requires-clause-in_range g c = in_range-bounded c.args.table.now c.args.from (g.G.Graph.rows c.args.graph.now) c.requires.in_range

pub returns-clause-clearable : goal.returns-clause-clearable
returns-clause-clearable g c =
    subst (λ n. IsClearable n c.search_into-searched.new.trail) (length-bounded c.args.table.now c.args.from (g.G.Graph.rows c.args.graph.now)) c.search_into-searched.ensures.clearable
