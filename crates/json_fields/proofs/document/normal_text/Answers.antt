use Rattle.std.proofs.Common.{◌∙◌, ℕ, List, Ok, ap, sym}
use Rattle.serde_json.specs.Written.{compact_text}
use Rattle.json_fields.specs.Laws.Wholes.{whole-has_no_float}
use Rattle.base_values.specs.Outcome.{◌>>=◌}
use Rattle.json_fields.proofs.document.normal_text.Goals as goal

pub returns-clause-exact : goal.returns-clause-exact
returns-clause-exact g c =
    let writes = g.T.Json.writes in
    let document = c.in_ok-document.document in
    let again = c.in_ok-document.ensures.again writes g.T.Json.height g.met.T.Json.round_trips in
    let clean = whole-has_no_float g.T.ReadJson.reads (writes document) document again in
    ap (λ reading. ◌>>=◌ {E = List ℕ} reading (λ x. Ok (compact_text (writes x)))) c.in_ok-document.ensures.exact
    ∙ ap Ok (sym (c.in_ok-to_text.ensures.text clean))
