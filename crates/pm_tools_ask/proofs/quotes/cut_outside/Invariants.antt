use Rattle.std.proofs.Common.{◌≡◌, take, drop}
use Rattle.pm_tools_ask.proofs.Scans.{with_front}
use Rattle.pm_tools_ask.specs.Quotes.{cut_outside}
use Rattle.pm_tools_ask.specs.declared.quotes.Quotes.TheVariants.{Outside}
use Rattle.pm_tools_ask.proofs.quotes.cut_outside.Given as goal

abbrev pub invariant-loop-place : goal.invariant-loop-place
invariant-loop-place l =
    with_front (take l.place l.text) (cut_outside l.at l.quotes (drop l.place l.text)) ≡ cut_outside l.at Outside l.text
