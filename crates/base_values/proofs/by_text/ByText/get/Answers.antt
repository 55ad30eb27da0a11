use Rattle.std.proofs.Common.{◌∙◌}
use Rattle.base_values.proofs.TextMaps.{value_at-text_entries}
use Rattle.base_values.proofs.by_text.ByText.get.Goals as goal

pub returns : goal.returns
returns g c = rw (← c.self.view_is) (c.get.ensures.value ∙ value_at-text_entries c.args.key.now c.self.inside.inner.entries)
