use Rattle.std.proofs.Common.{◌≡◌, ap, subst, sym, ◌∙◌}
use Rattle.vfs_sets.specs.FileSet.{FileSetContent, set_of, with_set_file}
use Rattle.vfs_sets.specs.Rows.{IsFreeOf, rows_content}
use Rattle.vfs_sets.proofs.RowLemmas.{row_more, rows_more}
use Rattle.vfs_sets.proofs.file_rows.FileRows.push.Goals as goal

pub invariant_of-self-2 : goal.invariant_of-self-2
invariant_of-self-2 c =
    subst (λ rows. set_of rows ≡ rows_content rows) (sym c.in_ok-push.ensures.items)
    (rows_more _ c.args.file c.args.path c.self.invariant
    (subst (λ (set : FileSetContent). IsFreeOf set c.args.file c.args.path) (sym c.self.view_is) c.requires))

pub returns-clause-ok : goal.returns-clause-ok
returns-clause-ok c =
    ap rows_content c.in_ok-push.ensures.items
    ∙ row_more _ c.args.file c.args.path
    (subst (λ (set : FileSetContent). IsFreeOf set c.args.file c.args.path) (sym c.self.view_is) c.requires)
    ∙ ap (λ (set : FileSetContent). with_set_file set c.args.file c.args.path) c.self.view_is
