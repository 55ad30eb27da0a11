use Rattle.std.proofs.Common.{ap, ◌∙◌, sym, Ok}
use Rattle.cargo_msgs.specs.Messages.{message_of}
use Rattle.cargo_msgs.proofs.Streams.{item_of_bytes-bad, item_of_bytes-text}
use Rattle.cargo_msgs.proofs.message_iter.item_of.Goals as goal

pub returns-in-Ok-of_line : goal.returns-in-Ok-of_line
returns-in-Ok-of_line c =
    item_of_bytes-text c.args.bytes.now c.in-Ok.ensures.cases.1 ∙ ap Ok (ap message_of (sym c.in-Ok.ensures.cases.0) ∙ sym c.in-Ok-of_line.ensures.exact)

pub returns-in-Err : goal.returns-in-Err
returns-in-Err c = item_of_bytes-bad c.args.bytes.now c.in-Err.ensures.cases.0
