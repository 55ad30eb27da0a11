use Rattle.std.proofs.Common.{rules, tests}
use Rattle.std.proofs.lemmas.Iterator.Search.{find_from_yields_List}
use Rattle.std.proofs.lemmas.Iterator.Splits.{YieldsList-from_lines}
use Rattle.cargo_meta.specs.Answer.{begins_an_object}
use Rattle.pm_cargo_fetch.proofs.answers.json_line.Goals as goal

pub returns : goal.returns
returns c =
    find_from_yields_List begins_an_object _ _ c.find.result c.find.ensures.ran
    (YieldsList-from_lines c.args.out.now c.lines.ensures.rest) (λ x b q k. search (rules, tests))
