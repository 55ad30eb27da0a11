use Rattle.std.proofs.Common.{lit<, rules, tests}
use Rattle.std.proofs.lemmas.Iterator.Search.{find_from_yields_List}
use Rattle.std.proofs.lemmas.Iterator.Splits.{YieldsList-from_str_split}
use Rattle.base_text_paths.specs.Paths.{is_component}
use Rattle.base_text.proofs.memory_tree.first_component.Goals as goal

pub returns : goal.returns
returns c =
    find_from_yields_List is_component _ _ _ c.find.ensures.ran
    (YieldsList-from_str_split 47 c.args.text.now (lit< tt) c.split.ensures.text c.split.ensures.has_more c.split.ensures.pattern) (λ x b q k. search (rules, tests))
