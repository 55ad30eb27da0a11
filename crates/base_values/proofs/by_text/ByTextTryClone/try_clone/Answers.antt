use Rattle.std.proofs.Common.{string_bytes, refl}
use Rattle.base_values.proofs.TextMaps.{copied_one_more, text_entries-ascending}
use Rattle.base_values.proofs.by_text.ByTextTryClone.try_clone.Goals as goal

pub loop-key-preserved : goal.loop-key-preserved
loop-key-preserved g c =
    let ascending = rw c.self.view_is at (text_entries-ascending c.self.inside.inner.entries c.iter-key-items.ensures.ordered) in
    copied_one_more c.args.self.now c.loop-key.copy c.insert_copy.new.entries c.loop-key.key-iterator c.next.new.self (c.in-Some.key.now, c.in-Some.value.now) (string_bytes c.in-Some.key.now) c.in-Some.value.now ascending c.loop-key.invariant c.in-Some.ensures.steps refl refl c.in_ok-insert_copy.ensures
