use Rattle.base_values.proofs.TextMaps.{text_entries-ascending}
use Rattle.base_values.proofs.by_text.ByText.len.Goals as goal

pub returns-clause-ascending : goal.returns-clause-ascending
returns-clause-ascending g c = rw (← c.self.view_is) (text_entries-ascending c.self.inside.inner.entries c.len.ensures.ordered)
