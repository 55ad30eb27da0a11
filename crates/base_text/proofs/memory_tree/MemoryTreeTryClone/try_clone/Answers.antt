use Rattle.base_text.proofs.Puts.{copied_one_more}
use Rattle.base_text.proofs.memory_tree.MemoryTreeTryClone.try_clone.Goals as goal

pub loop-path-preserved : goal.loop-path-preserved
loop-path-preserved c =
    copied_one_more c.args.self.now c.loop-path.files.entries c.insert.new.self.entries c.loop-path.path-iterator c.next.new.self c.in-Some.path.now c.in-Some.text.now c.in_ok-try_clone.field-0 c.in_ok-try_clone-2.field-0
    (rw c.self.view_is at c.iter-path-items.ensures.ordered) c.loop-path.invariant c.in-Some.ensures.steps c.in_ok-try_clone.ensures c.in_ok-try_clone-2.ensures c.in_ok-insert.ensures.entries
