use Rattle.std.proofs.Common.{◌≡◌, ◌<◌, ◌≤◌, ◌+◌, ◌&&◌, ◌==◌, true, false, length, get_or, drop, take, Some, refl, sym, ap, ◌∙◌}
use Rattle.std.proofs.lemmas.Bool.{eq-eqb, ne_eqb}
use Rattle.std.proofs.lemmas.Str.{IsCharBoundary-after_ascii}
use Rattle.pm_tools_ask.specs.Quotes.{cut_outside, is_unquoted}
use Rattle.pm_tools_ask.proofs.Scans.{and_no, cut-end, cut-here, cut-later, front_range, with_front}
use Rattle.pm_tools_ask.proofs.quotes.cut_outside.Goals.{else-is_outside-via-then-is_outside+else-byte-at, else-is_outside-via-else-is_outside}
use Rattle.pm_tools_ask.proofs.quotes.cut_outside.Goals as goal

pub range_from-requires : goal.range_from-requires
range_from-requires c =
    let value = c.as_bytes-byte-items.ensures.value in
    let within : c.loop-place.place < length c.args.text.now = rw value at c.loop-place-test.true in
    let is_at : get_or c.args.text.now c.loop-place.place 0 ≡ c.args.at = rw value at c.if-byte-at.true in
    λ _. IsCharBoundary-after_ascii _ _ c.utf8.text within (rw is_at c.requires)

pub returns-then-byte-at : goal.returns-then-byte-at
returns-then-byte-at c =
    let value = c.as_bytes-byte-items.ensures.value in
    let within : c.loop-place.place < length c.args.text.now = rw value at c.loop-place-test.true in
    let is_at : get_or c.args.text.now c.loop-place.place 0 ≡ c.args.at = rw value at c.if-byte-at.true in
    let here : (is_unquoted c.loop-place.quotes && (get_or c.args.text.now c.loop-place.place 0 == c.args.at)) ≡ true =
    rw (sym c.is_outside.ensures ∙ c.if-is_outside.true, eq-eqb _ _ is_at) refl in
    let front : c.range.result.now ≡ take c.loop-place.place c.args.text.now = c.range.ensures.value ∙ front_range _ _ in
    ap (λ x. Some (x, c.range_from.result.now)) front ∙ ap (λ x. Some (take c.loop-place.place c.args.text.now, x)) c.range_from.ensures.value
    ∙ (sym (cut-here c.args.at c.loop-place.quotes c.args.text.now c.loop-place.place within here) ∙ c.loop-place.invariant)

pub loop-place-preserved : goal.loop-place-preserved
loop-place-preserved c =
    let value = c.as_bytes-byte-items.ensures.value in
    let within : c.loop-place.place < length c.args.text.now = rw value at c.loop-place-test.true in
    let byte = rw value at c.after-quotes.ensures in
    let later : (is_unquoted c.loop-place.quotes && (get_or c.args.text.now c.loop-place.place 0 == c.args.at)) ≡ false =
    elim c.else-is_outside.branch [
      | else-is_outside-via-then-is_outside+else-byte-at w ↦ and_no _ _ (ne_eqb _ _ (rw value at w.if-byte-at.false))
      | else-is_outside-via-else-is_outside w ↦ rw (sym c.is_outside.ensures ∙ w.if-is_outside.false) refl
    ] in
    ap (λ q. with_front (take (c.loop-place.place + 1) c.args.text.now) (cut_outside c.args.at q (drop (c.loop-place.place + 1) c.args.text.now))) byte
    ∙ sym (cut-later c.args.at c.loop-place.quotes c.args.text.now c.loop-place.place within later) ∙ c.loop-place.invariant

pub returns : goal.returns
returns c =
    let value = c.as_bytes-byte-items.ensures.value in
    let past : length c.args.text.now ≤ c.loop-place.place = rw value at c.loop-place-test.false in
    sym (cut-end c.args.at c.loop-place.quotes c.args.text.now (take c.loop-place.place c.args.text.now) c.loop-place.place past) ∙ c.loop-place.invariant
