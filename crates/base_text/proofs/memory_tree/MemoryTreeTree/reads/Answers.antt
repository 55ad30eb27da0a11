use Rattle.std.proofs.Common.{◌∙◌, ap, Some}
use Rattle.base_text.proofs.Puts.{file_text-get}
use Rattle.base_text.proofs.memory_tree.MemoryTreeTree.reads.Goals as goal

pub returns-in-Some : goal.returns-in-Some
returns-in-Some c =
    rw (← c.self.view_is)
    (ap Some (c.in_ok-of_str-in-Some.ensures ∙ c.as_str.ensures)
    ∙ c.in-Some.ensures.value ∙ file_text-get c.self.inside.files.entries _ c.in_ok-file.file c.in_ok-file.ensures.same_components)

pub returns : goal.returns
returns c =
    rw (← c.self.view_is)
    (c.in-None.ensures.value ∙ file_text-get c.self.inside.files.entries _ c.in_ok-file.file c.in_ok-file.ensures.same_components)
