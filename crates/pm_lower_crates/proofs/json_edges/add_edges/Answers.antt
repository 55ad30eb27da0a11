use Rattle.std.proofs.Common.{◌∙◌, ◌++◌, ap, append_assoc}
use Rattle.std.specs.List.{flat_map}
use Rattle.pm_lower_crates.specs.JsonWantedEdges.{json_to_libraries, to_row}
use Rattle.pm_lower_crates.proofs.json_edges.add_edges.Goals as goal

pub returns : goal.returns
returns c =
    let from = c.args.from.now in
    let others = flat_map (to_row c.args.rows.now from) from.of.deps in
    c.in_ok-add_dependencies.ensures ∙ ap (λ es. es ++ others) c.in_ok-add_libraries.ensures ∙ append_assoc c.args.edges.now.items (json_to_libraries c.args.public.now from) others
