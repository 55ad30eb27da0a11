use Rattle.std.proofs.Common.{◌∙◌, ap, string_bytes}
use Rattle.std.proofs.lemmas.Result.{IfOk-weaker, on_ok_weaker}
use Rattle.base_values.specs.ByText.{text_entries}
use Rattle.base_values.proofs.TextMaps.{text_entries-insert_entry, value_at-text_entries, with_value-last}
use Rattle.base_values.proofs.by_text.ByText.insert.Goals as goal

pub returns-clause-ok : goal.returns-clause-ok
returns-clause-ok g c =
    rw (← c.self.view_is)
    (on_ok_weaker c.insert.result (λ e. ap text_entries e ∙ text_entries-insert_entry c.self.inside.inner.entries c.args.key c.args.value) c.insert.ensures.entries)

pub returns-clause-before : goal.returns-clause-before
returns-clause-before g c =
    rw (← c.self.view_is)
    (IfOk-weaker c.insert.result _ _ (λ before e. e ∙ value_at-text_entries (string_bytes c.args.key) c.self.inside.inner.entries) c.insert.ensures.old)

pub returns-clause-last : goal.returns-clause-last
returns-clause-last g c = λ above.
    on_ok_weaker c.insert.result (λ e. e ∙ with_value-last c.args.self.now (string_bytes c.args.key) c.args.value above) (returns-clause-ok g c)
