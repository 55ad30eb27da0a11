use Rattle.std.proofs.Common.{◌≡◌, ◌<◌, ◌∙◌, arith, get_or, length, length-set, map, sym, true}
use Rattle.std.proofs.lemmas.List.{get_or-map, length-map}
use Rattle.base_text_paths.specs.Arena.{number_of}
use Rattle.crate_graph.proofs.PruneLemmas.{marks_more, named_at}
use Rattle.crate_graph.proofs.graph.prune.marks_of.Goals as goal

pub index_mut-requires : goal.index_mut-requires
index_mut-requires c =
    let ids = c.args.to_keep.now in
    let is : get_or (map number_of c.args.to_keep.now) c.loop-id.id-index 0 ≡ c.into_raw.result = get_or-map number_of ids c.loop-id.id-index _ 0 c.loop-id-test.true ∙ sym c.into_raw.ensures in
    let long : c.loop-id.id-index < length (map number_of c.args.to_keep.now) = omega (arith, c.loop-id-test.true, length-map ids number_of) in
    let below : c.into_raw.result < c.args.count = c.requires c.into_raw.result (named_at (map number_of ids) c.loop-id.id-index c.into_raw.result long is) in
    omega (arith, below, c.loop-id.invariant.long)

pub loop-id-preserved : goal.loop-id-preserved
loop-id-preserved c =
    let ids = c.args.to_keep.now in
    let is : get_or (map number_of c.args.to_keep.now) c.loop-id.id-index 0 ≡ c.into_raw.result = get_or-map number_of ids c.loop-id.id-index _ 0 c.loop-id-test.true ∙ sym c.into_raw.ensures in
    let long : c.loop-id.id-index < length (map number_of c.args.to_keep.now) = omega (arith, c.loop-id-test.true, length-map ids number_of) in
    let below : c.into_raw.result < c.args.count = c.requires c.into_raw.result (named_at (map number_of ids) c.loop-id.id-index c.into_raw.result long is) in
    record {
      long = length-set c.loop-id.marks.items c.into_raw.result true ∙ c.loop-id.invariant.long;
      named = marks_more (map number_of ids) c.loop-id.marks.items c.loop-id.id-index c.into_raw.result c.args.count long is below c.loop-id.invariant.long c.loop-id.invariant.named;
    }
