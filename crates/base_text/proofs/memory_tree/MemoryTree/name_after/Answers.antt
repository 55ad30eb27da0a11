use Rattle.std.proofs.Common.{◌∙◌, sym, ap}
use Rattle.std.specs.Option.{option_and_then}
use Rattle.base_text_paths.specs.AbsPath.{abs_text}
use Rattle.base_text_paths.specs.Paths.{components}
use Rattle.base_text.specs.Tree.{entry_name}
use Rattle.base_text.proofs.EntryNames.{entry_name-Lacks}
use Rattle.base_text.proofs.Ordered.{first_behind}
use Rattle.base_text.proofs.memory_tree.MemoryTree.name_after.Goals as goal

pub returns-in-Some-clause-first : goal.returns-in-Some-clause-first
returns-in-Some-clause-first c =
    let directory = components (abs_text c.args.directory) in
    c.entry_name.ensures
    ∙ sym (first_behind directory c.args.name.now c.in_ok-start.start c.in_ok-start.ensures c.args.self.now c.first_from.ensures.ordered
    ∙ ap (option_and_then (λ key. entry_name directory (components key))) (sym c.in-Some.ensures.first))

pub returns-in-Some-clause-name : goal.returns-in-Some-clause-name
returns-in-Some-clause-name c = entry_name-Lacks c.entry_name.result _ _ c.entry_name.ensures

pub returns-clause-first : goal.returns-clause-first
returns-clause-first c =
    let directory = components (abs_text c.args.directory) in
    sym (first_behind directory c.args.name.now c.in_ok-start.start c.in_ok-start.ensures c.args.self.now c.first_from.ensures.ordered
    ∙ ap (option_and_then (λ key. entry_name directory (components key))) (sym c.in-None.ensures.first))
