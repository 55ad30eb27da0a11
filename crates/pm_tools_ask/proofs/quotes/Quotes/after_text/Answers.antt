use Rattle.std.proofs.Common.{◌≡◌, ◌<◌, ◌≤◌, ◌+◌, true, false, length, get_or, drop, Some, sym, ap, ◌∙◌}
use Rattle.std.proofs.lemmas.Str.{IsCharBoundary-after_ascii}
use Rattle.pm_tools_ask.specs.Quotes.{after_byte, after_quotes, is_unquoted}
use Rattle.pm_tools_ask.proofs.Scans.{after_quotes-closes, after_quotes-end, after_quotes-more, closes_ascii}
use Rattle.pm_tools_ask.proofs.quotes.Quotes.after_text.Goals as goal

pub range_from-requires : goal.range_from-requires
range_from-requires c =
    let value = c.as_bytes-byte-items.ensures.value in
    let within : c.loop-place.place < length c.args.text.now = rw value at c.loop-place-test.true in
    let byte = rw value at c.after-quotes.ensures in
    let closes : is_unquoted (after_byte c.loop-place.quotes (get_or c.args.text.now c.loop-place.place 0)) ≡ true =
    ap is_unquoted (sym byte) ∙ sym c.is_outside.ensures ∙ c.if-is_outside.true in
    λ _. IsCharBoundary-after_ascii _ _ c.utf8.text within (closes_ascii _ _ c.loop-place.invariant.0 closes)

pub returns-then-is_outside : goal.returns-then-is_outside
returns-then-is_outside c =
    let value = c.as_bytes-byte-items.ensures.value in
    let within : c.loop-place.place < length c.args.text.now = rw value at c.loop-place-test.true in
    let byte = rw value at c.after-quotes.ensures in
    let closes : is_unquoted (after_byte c.loop-place.quotes (get_or c.args.text.now c.loop-place.place 0)) ≡ true =
    ap is_unquoted (sym byte) ∙ sym c.is_outside.ensures ∙ c.if-is_outside.true in
    ap Some c.range_from.ensures.value ∙ sym (after_quotes-closes _ _ _ within closes) ∙ c.loop-place.invariant.1

pub loop-place-preserved : goal.loop-place-preserved
loop-place-preserved c =
    let value = c.as_bytes-byte-items.ensures.value in
    let within : c.loop-place.place < length c.args.text.now = rw value at c.loop-place-test.true in
    let byte = rw value at c.after-quotes.ensures in
    let inside : is_unquoted c.after-quotes.result ≡ false = sym c.is_outside.ensures ∙ c.if-is_outside.false in
    let more : is_unquoted (after_byte c.loop-place.quotes (get_or c.args.text.now c.loop-place.place 0)) ≡ false = ap is_unquoted (sym byte) ∙ inside in (
      inside,
      ap (λ q. after_quotes q (drop (c.loop-place.place + 1) c.args.text.now)) byte
          ∙ sym (after_quotes-more _ _ _ within more) ∙ c.loop-place.invariant.1,
    )

pub returns : goal.returns
returns c =
    let value = c.as_bytes-byte-items.ensures.value in
    let past : length c.args.text.now ≤ c.loop-place.place = rw value at c.loop-place-test.false in
    sym (after_quotes-end _ _ _ past) ∙ c.loop-place.invariant.1
