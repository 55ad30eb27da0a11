use Rattle.std.proofs.Common.{◌∙◌, sym}
use Rattle.vfs_sets.specs.FileSet.{files_eq}
use Rattle.vfs_sets.proofs.RowLemmas.{rows_eq}
use Rattle.vfs_sets.proofs.file_rows.FileRowsPartialEq.eq.Goals as goal

pub returns : goal.returns
returns c =
    c.eq.ensures ∙ sym (rows_eq c.self.inside.rows.items c.other.inside.rows.items)
    ∙ (λ i. files_eq (c.self.view_is i) (c.other.view_is i))
