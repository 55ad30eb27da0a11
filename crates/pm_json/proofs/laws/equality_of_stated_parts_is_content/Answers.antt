use Rattle.pm_json.specs.contracts.kinds.RunnableKindPartialEq.TheImpl as kind
use Rattle.pm_json.proofs.Equalities.{runnables_are_equal}
use Rattle.pm_json.proofs.laws.equality_of_stated_parts_is_content.Goals as goal

pub returns-clause-runnables : goal.returns-clause-runnables
returns-clause-runnables c = runnables_are_equal (kind.ghosts).eq c.equality_of_kinds_is_content.ensures.runnables
