use Rattle.std.proofs.Common.{rules, tests}
use Rattle.std.proofs.lemmas.Iterator.{YieldsList-from_slice}
use Rattle.std.proofs.lemmas.Iterator.Search.{find_from_yields_List}
use Rattle.pm_tools.specs.Library.{is_library}
use Rattle.pm_tools.proofs.artifact.first_library.Goals as goal

pub returns : goal.returns
returns c =
    find_from_yields_List is_library _ _ c.find.result c.find.ensures.ran
    (YieldsList-from_slice c.args.files.now cc) (λ x b q k. search (rules, tests))
