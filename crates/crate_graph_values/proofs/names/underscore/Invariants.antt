use Rattle.std.proofs.Common.{◌≡◌, ◌++◌, string_bytes, length}
use Rattle.std.specs.Str.{IsUtf8}
use Rattle.crate_graph_values.specs.Names.{with_underscores}
use Rattle.crate_graph_values.proofs.names.underscore.Given as goal

abbrev pub invariant-loop-before : goal.invariant-loop-before
invariant-loop-before l = record {
  text : IsUtf8 l.rest;
  so_far : string_bytes l.text ++ with_underscores l.rest ≡ with_underscores l.initial.rest;
}

abbrev pub decreases-loop-before : goal.decreases-loop-before
decreases-loop-before l = length l.rest
