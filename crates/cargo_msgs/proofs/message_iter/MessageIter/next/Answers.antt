use Rattle.std.proofs.Common.{[]}
use Rattle.base_text.specs.Calls.{none}
use Rattle.cargo_msgs.proofs.message_iter.MessageIter.next.Goals as goal

pub returns-then-self-clause-reads : goal.returns-then-self-clause-reads
returns-then-self-clause-reads g c = record { bytes = []; reads = none }

pub returns-clause-taken : goal.returns-clause-taken
returns-clause-taken g c = rw (← c.self-2.view_is) at c.read_item-item.ensures.taken
