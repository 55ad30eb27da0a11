use Rattle.std.proofs.Common.{◌∙◌, ap, sym}
use Rattle.vfs_sets.specs.FileSet.{files_eq, files_equiv}
use Rattle.vfs_sets.specs.Rows.{rows_content}
use Rattle.vfs_sets.specs.SetContent.{content_of}
use Rattle.vfs_sets.proofs.file_set.FileSetPartialEq.eq.Goals as goal

pub returns-in-Few-Many : goal.returns-in-Few-Many
returns-in-Few-Many c =
    let rows_are = c.as_slice.ensures.value ∙ ap content_of (sym c.in-Few-Many.is-0) ∙ c.self.view_is in
    let maps_are = c.deref.ensures ∙ ap content_of (sym c.in-Few-Many.is-1) ∙ c.other.view_is in
    c.equal_rows.ensures ∙ files_equiv.symm c.deref.result.now (rows_content c.as_slice.result.now) ∙ (λ i. files_eq (rows_are i) (maps_are i))
