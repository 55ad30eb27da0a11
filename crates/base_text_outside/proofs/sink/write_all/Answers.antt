use Rattle.std.proofs.Common.{arith}
use Rattle.std.proofs.lemmas.List.{take_rest}
use Rattle.base_text_outside.specs.Sink.{Appends-next}
use Rattle.base_text_outside.proofs.sink.write_all.Goals as goal

pub loop-taken-preserved : goal.loop-taken-preserved
loop-taken-preserved g c =
    let next = rw take_rest at c.in-Ok.ensures.bytes in
    record {
      within = omega (arith, c.in-Ok.ensures.bound);
      held = Appends-next _ _ _ c.args.piece.now c.loop-taken.taken c.in-Ok.count c.loop-taken.invariant.held next;
      later = omega (arith, c.in-Ok.ensures.cause.later);
    }
