use Rattle.std.proofs.Common.{◌++◌, refl, sym, ap, ◌∙◌}
use Rattle.pm_tools_ask.proofs.Lines.{closes, passes_over, pushed, takes_item}
use Rattle.pm_tools_ask.proofs.statement.OpenList.take_line.Goals as goal

pub returns-in_ok-push-in-Closes : goal.returns-in_ok-push-in-Closes
returns-in_ok-push-in-Closes c = λ lines.
    ap (λ s. c.args.whole.now.items ++ s) (closes c.args.self c.args.line.now lines c.in-Closes.root (sym c.in_ok-root.ensures ∙ c.in-Closes.is))
    ∙ pushed _ _ _ _ _ c.in_ok-push-in-Closes.ensures.items c.close.ensures

pub returns-in_ok-push-in-Item : goal.returns-in_ok-push-in-Item
returns-in_ok-push-in-Item c = λ lines.
    ap (λ s. c.args.whole.now.items ++ s)
    (takes_item c.args.self (record { keys = c.args.self.keys; items = c.push-in-Item.new.self }) c.args.line.now lines c.in-Item.root (sym c.in_ok-root.ensures ∙ c.in-Item.is) refl c.in_ok-push-in-Item.ensures.items)

pub returns-in-Neither : goal.returns-in-Neither
returns-in-Neither c = λ lines.
    ap (λ s. c.args.whole.now.items ++ s) (passes_over c.args.self c.args.line.now lines (sym c.in_ok-root.ensures ∙ c.in-Neither.is))
