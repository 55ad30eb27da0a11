use Rattle.std.proofs.lemmas.Result.{err_from_is_err_and}
use Rattle.pm_lower_load.proofs.JsonLemmas.{document-read, document-refused, text-refused}
use Rattle.pm_lower_load.proofs.json_document.document_at.Goals as goal

pub returns-in_err-text : goal.returns-in_err-text
returns-in_err-text g c =
    let p = err_from_is_err_and c.from_residual.result c.from_residual.ensures.1 in
    rw (p.1, p.2) (text-refused (g.T.Tree.files c.args.tree.now) c.args.path.now c.in_err-text.field-0.0 c.in_err-text.ensures)

pub returns-in_err-of_text : goal.returns-in_err-of_text
returns-in_err-of_text g c =
    let p = err_from_is_err_and c.from_residual-in_err-of_text.result c.from_residual-in_err-of_text.ensures.1 in
    rw (p.1, p.2) (document-refused (g.T.Tree.files c.args.tree.now) c.args.path.now c.in_ok-text.text c.as_str.result.now c.in_ok-text.ensures c.as_str.ensures
    c.in_err-of_text.field-0.0 c.in_err-of_text.ensures.exact)

pub returns : goal.returns
returns g c =
    document-read (g.T.Tree.files c.args.tree.now) c.args.path.now c.in_ok-text.text c.as_str.result.now c.in_ok-text.ensures c.as_str.ensures
    c.in_ok-of_text.field-0 c.in_ok-of_text.ensures.exact
