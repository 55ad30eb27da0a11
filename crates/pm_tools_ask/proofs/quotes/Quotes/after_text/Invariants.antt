use Rattle.std.proofs.Common.{◌≡◌, false, drop}
use Rattle.pm_tools_ask.specs.Quotes.{after_quotes, is_unquoted}
use Rattle.pm_tools_ask.proofs.quotes.Quotes.after_text.Given as goal

abbrev pub invariant-loop-place : goal.invariant-loop-place
invariant-loop-place l =
    (is_unquoted l.quotes ≡ false) × (after_quotes l.quotes (drop l.place l.text) ≡ after_quotes l.fn.self l.text)
