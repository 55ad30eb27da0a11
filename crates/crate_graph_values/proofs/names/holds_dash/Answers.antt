use Rattle.std.proofs.Common.{lit<}
use Rattle.std.proofs.lemmas.Str.Pattern.{contains_char}
use Rattle.crate_graph_values.proofs.NameLemmas.{dash_found}
use Rattle.crate_graph_values.proofs.names.holds_dash.Goals as goal

pub returns : goal.returns
returns c =
    let found = contains_char 45 _ _ c.contains.ensures.cases (lit< tt) in
    dash_found c.args.text.now c.contains.result found.0 found.1
