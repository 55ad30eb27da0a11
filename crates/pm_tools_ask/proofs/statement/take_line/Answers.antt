use Rattle.std.proofs.Common.{◌++◌, ℕ, List, Option, sym, ap, ◌∙◌}
use Rattle.pm_tools_ask.specs.declared.statement.Statement.{Statement}
use Rattle.pm_tools_ask.proofs.Lines.{opens, pushed, states, states_nothing}
use Rattle.pm_tools_ask.proofs.statement.take_line.Goals as goal

pub returns-in_ok-push-in-Value : goal.returns-in_ok-push-in-Value
returns-in_ok-push-in-Value c =
    let one : List (Option (List ℕ)) → Statement = λ items. record { keys = c.in-Value.keys; root = c.in-Value.root; items = items } in
    λ lines.
    ap (λ s. c.args.whole.now.items ++ s) (states c.args.line.now lines c.in-Value.keys c.in-Value.root (sym c.in_ok-keys.ensures ∙ c.in-Value.is))
    ∙ pushed _ _ _ _ _ c.in_ok-push-in-Value.ensures.items (ap one c.empty-items.ensures)

pub returns-in-Opens : goal.returns-in-Opens
returns-in-Opens c = λ lines.
    ap (λ s. c.args.whole.now.items ++ s)
    (opens (record { keys = c.in-Opens.keys; items = c.new-items.result }) c.args.line.now lines (sym c.in_ok-keys.ensures ∙ c.in-Opens.is) c.new-items.ensures.items)

pub returns-in-Other : goal.returns-in-Other
returns-in-Other c = λ lines.
    ap (λ s. c.args.whole.now.items ++ s) (states_nothing c.args.line.now lines (sym c.in_ok-keys.ensures ∙ c.in-Other.is))
