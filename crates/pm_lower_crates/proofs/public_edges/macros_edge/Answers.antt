use Rattle.std.proofs.Common.{◌∙◌, ap}
use Rattle.base_text_paths.specs.Arena.{number_of}
use Rattle.pm_lower_crates.proofs.PublicLemmas.{macros_edge_is}
use Rattle.pm_lower_crates.proofs.public_edges.macros_edge.Goals as goal

pub returns : goal.returns
returns c =
    let made = c.with_prelude-dep.ensures in
    macros_edge_is c.args.source (number_of c.args.macros) c.args.is_macro c.with_prelude-dep.result c.of_dep.result c.of_dep.ensures (made.under ∙ c.in_ok-name.ensures) (ap number_of made.names) made.prelude
    made.sysroot
