use Rattle.cargo_msgs.proofs.Streams.{GaveMessages-all, GaveMessages-fresh, GaveMessages-front}
use Rattle.cargo_msgs.proofs.laws.streams_give_their_messages.Goals as goal

pub returns-clause-at_first : goal.returns-clause-at_first
returns-clause-at_first c = GaveMessages-fresh

pub returns-clause-front : goal.returns-clause-front
returns-clause-front c = GaveMessages-front

pub returns-clause-at_last : goal.returns-clause-at_last
returns-clause-at_last c = GaveMessages-all
