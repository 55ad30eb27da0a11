use Rattle.std.proofs.Common.{ap, sym, ◌∙◌}
use Rattle.std.proofs.lemmas.Bool.{cond-false, cond-true}
use Rattle.std.proofs.lemmas.List.{at_drop_all}
use Rattle.vfs_sets.specs.FileSet.{FileSetContent, file_at}
use Rattle.vfs_sets.specs.Rows.{rows_content}
use Rattle.vfs_sets.proofs.RowLemmas.{file_of_row}
use Rattle.vfs_sets.proofs.file_rows.FileRows.file_at.Goals as goal

pub loop-file-init : goal.loop-file-init
loop-file-init c =
    ap (λ (set : FileSetContent). file_at set c.args.path.now) (sym c.self.view_is)
    ∙ ap (λ rows. file_at (rows_content rows) c.args.path.now) (sym c.deref-file-items.ensures.value)

pub returns-then-eq : goal.returns-then-eq
returns-then-eq c =
    sym (c.loop-file.invariant
    ∙ file_of_row _ _ c.loop-file-item.result c.args.path.now c.loop-file-test.true c.loop-file-item.is
    ∙ cond-true _ _ _ (sym c.if-eq.ensures))

pub loop-file-preserved : goal.loop-file-preserved
loop-file-preserved c =
    c.loop-file.invariant
    ∙ file_of_row _ _ c.loop-file-item.result c.args.path.now c.loop-file-test.true c.loop-file-item.is
    ∙ cond-false _ _ _ (sym c.if-eq.ensures)

pub returns : goal.returns
returns c =
    sym (c.loop-file.invariant
    ∙ at_drop_all (λ rows. file_at (rows_content rows) c.args.path.now) _ _ c.loop-file-test.false)
