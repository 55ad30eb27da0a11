use Rattle.std.proofs.Common.{◌∙◌, Err, ap, sym, subst}
use Rattle.json_fields.specs.Document.{document}
use Rattle.json_fields.specs.Laws.Wholes.{bytes_document-no_text, bytes_document-text}
use Rattle.json_fields.specs.Outcome.{Gives}
use Rattle.json_fields.proofs.document.of_bytes.Goals as goal

pub returns-in-Ok-clause-exact : goal.returns-in-Ok-clause-exact
returns-in-Ok-clause-exact g c =
    let reads = g.T.ReadJson.reads in
    let text = c.in-Ok.ensures.cases in
    subst (λ reading. Gives c.of_text.result reading)
    (ap (document reads) text.0 ∙ sym (bytes_document-text reads c.args.bytes.now text.1)) c.of_text.ensures.exact

pub returns-in_ok-of_str-in-Err-clause-exact : goal.returns-in_ok-of_str-in-Err-clause-exact
returns-in_ok-of_str-in-Err-clause-exact g c =
    bytes_document-no_text g.T.ReadJson.reads c.args.bytes.now c.in-Err.ensures.cases.0 ∙ ap Err (sym c.in_ok-of_str-in-Err.ensures)
