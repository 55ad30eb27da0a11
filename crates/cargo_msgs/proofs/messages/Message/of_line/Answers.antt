use Rattle.std.proofs.Common.{arith}
use Rattle.cargo_msgs.specs.Messages.{message_data}
use Rattle.cargo_msgs.specs.laws.Messages.{message-round_trips}
use Rattle.cargo_msgs.proofs.ReadBack.{has_texts, read_back}
use Rattle.cargo_msgs.proofs.messages.Message.of_line.Goals as goal

pub returns-in-Ok-clause-again : goal.returns-in-Ok-clause-again
returns-in-Ok-clause-again c =
    let nests = c.in-Ok.ensures.nests message_data 3 message-round_trips in
    read_back c.in-Ok.message (has_texts c.in-Ok.message (c.in-Ok.ensures.again message_data 3 message-round_trips) (omega (arith, nests)))
