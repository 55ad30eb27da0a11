use Rattle.base_text.proofs.Wholes.{Gave-all, Gave-fresh, Gave-front, Gave-within}
use Rattle.base_text.proofs.laws.readers_give_the_lines.Goals as goal

pub returns-clause-at_first : goal.returns-clause-at_first
returns-clause-at_first c = Gave-fresh

pub returns-clause-front : goal.returns-clause-front
returns-clause-front c = Gave-front

pub returns-clause-at_last : goal.returns-clause-at_last
returns-clause-at_last c = Gave-all

pub returns-clause-within : goal.returns-clause-within
returns-clause-within c = Gave-within
