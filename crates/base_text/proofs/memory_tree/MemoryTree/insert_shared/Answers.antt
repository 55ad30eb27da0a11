use Rattle.std.proofs.Common.{◌∙◌, ap}
use Rattle.base_text_paths.specs.Paths.{normal}
use Rattle.base_text.specs.Tree.{file_text, holds_path}
use Rattle.base_text.proofs.Puts.{file_text-insert_entry, holds_path-insert_entry}
use Rattle.base_text.proofs.memory_tree.MemoryTree.insert_shared.Goals as goal

pub returns-clause-last_counts : goal.returns-clause-last_counts
returns-clause-last_counts c asked =
    rw (← c.self.view_is)
    (ap (λ files. file_text files asked) c.in_ok-insert.ensures.entries
    ∙ file_text-insert_entry c.self.inside.files.entries c.in_ok-path.path c.args.text c.args.path asked (c.in_ok-path.ensures.same_components ∙ ap normal c.as_path.ensures))

pub returns-clause-one_more : goal.returns-clause-one_more
returns-clause-one_more c asked =
    rw (← c.self.view_is)
    (ap (λ files. holds_path files asked) c.in_ok-insert.ensures.entries
    ∙ holds_path-insert_entry c.self.inside.files.entries c.in_ok-path.path c.args.text c.args.path asked (c.in_ok-path.ensures.same_components ∙ ap normal c.as_path.ensures))
