use Rattle.serde_json.specs.View.{view}
use Rattle.live_page.proofs.GeneratedLemmas.{document_text}
use Rattle.live_page.proofs.generated.generated_document.Goals as goal

pub returns : goal.returns
returns c =
    document_text c.args.count (view c.in_ok-document.document) c.to_string.result c.in_ok-document.ensures c.to_string.ensures.text
