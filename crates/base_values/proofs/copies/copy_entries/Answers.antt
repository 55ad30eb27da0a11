use Rattle.std.proofs.Common.{refl}
use Rattle.base_values.proofs.TableCopies.{copied_more}
use Rattle.base_values.proofs.copies.copy_entries.Goals as goal

pub loop-key-preserved : goal.loop-key-preserved
loop-key-preserved g c =
    copied_more _ g.met.K.Eq.laws c.args.entries.now.entries c.loop-key.copy.entries c.loop-key.key-iterator
    c.next.new.self c.insert_copy.new.entries.entries c.in-Some.key.now c.in-Some.key.now c.in-Some.value.now
    c.in-Some.value.now c.iter-key-items.ensures.unique c.loop-key.invariant c.in-Some.ensures.steps
    refl refl c.in_ok-insert_copy.ensures
