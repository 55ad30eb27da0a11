use Rattle.std.proofs.Common.{◌∙◌}
use Rattle.base_values.proofs.TextMaps.{pointwise-text_entries}
use Rattle.base_values.proofs.by_text.ByTextPartialEq.eq.Goals as goal

pub returns : goal.returns
returns g c =
    rw (← c.self.view_is, ← c.other.view_is)
    (c.eq.ensures ∙ pointwise-text_entries g.V.PartialEq.eq c.self.inside.inner.entries c.other.inside.inner.entries)
