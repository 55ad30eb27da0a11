-- The bytes are a text where the standard library takes them for one.
use Rattle.std.proofs.Common.{◌∙◌, ap}
use Rattle.std.proofs.lemmas.Bool.{false≢true}
use Rattle.std.proofs.lemmas.Str.{IsUtf8-string_bytes}
use Rattle.live_page.proofs.Taken.{text_if-invalid, text_if-valid}
use Rattle.live_page.proofs.changes.text_if.Goals as goal

pub returns-in-Ok : goal.returns-in-Ok
returns-in-Ok c =
    text_if-valid _ _ (ap (λ v. v.items) c.in-Ok.ensures.ok ∙ c.into_inner.ensures) (IsUtf8-string_bytes c.in-Ok.text)

pub returns : goal.returns
returns c = text_if-invalid _ _ c.into_inner.ensures (λ u. absurd (false≢true (c.in-Err.ensures.succeeds u)))
