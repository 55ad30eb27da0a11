use Rattle.std.proofs.Common.{◌≡◌, map, take}
use Rattle.std.specs.Prelude.{string_bytes}
use Rattle.crate_graph.specs.Graph.{attribute}
use Rattle.pm_lower_crates.proofs.json_columns.attributes_of.Given as goal

abbrev pub invariant-loop-text : goal.invariant-loop-text
invariant-loop-text l = map (λ text. attribute (string_bytes text)) l.texts.items ≡ map attribute (take l.text-index l.krate.crate_attrs)
