use Rattle.std.proofs.Common.{◌≡◌, ◌-◌, ◌<◌}
use Rattle.std.specs.Prelude.{slice_index}
use Rattle.graph_base.proofs.ListingLemmas.{AreArranged}
use Rattle.graph_base.proofs.listing.arrange.Given as goal

abbrev pub invariant-loop-place : goal.invariant-loop-place
invariant-loop-place l = record {
  arranged : AreArranged l.nodes l.table l.place;
  last : 0 < l.place → l.last ≡ slice_index l.nodes (l.place - 1);
}
