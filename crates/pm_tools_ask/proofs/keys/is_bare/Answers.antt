use Rattle.std.proofs.Common.{◌≡◌, ◌<◌, ◌≤◌, true, false, length, get_or, drop, refl, sym, ◌∙◌}
use Rattle.std.proofs.lemmas.List.{at_drop_all, at_drop_more}
use Rattle.std.specs.List.{list_all}
use Rattle.pm_tools_ask.specs.Line.{is_bare, is_bare_byte}
use Rattle.pm_tools_ask.proofs.keys.is_bare.Goals as goal

pub returns-then-not-is_bare_byte : goal.returns-then-not-is_bare_byte
unfolding is_bare
returns-then-not-is_bare_byte c =
    let value = c.as_bytes-byte-items.ensures.value in
    let within : c.loop-byte.byte-index < length c.args.part.now = rw value at c.loop-byte-test.true in
    let other : is_bare_byte (get_or c.args.part.now c.loop-byte.byte-index 0) ≡ false = rw value at (sym c.is_bare_byte.ensures ∙ c.if-not-is_bare_byte.true) in
    let fails : list_all is_bare_byte (drop c.loop-byte.byte-index c.args.part.now) ≡ false =
    at_drop_more (list_all is_bare_byte) c.args.part.now c.loop-byte.byte-index 0 within ∙ (rw other refl) in
    let all : list_all is_bare_byte c.args.part.now ≡ false = sym c.loop-byte.invariant ∙ fails in
    rw all refl

pub returns : goal.returns
unfolding is_bare
returns c =
    let value = c.as_bytes-byte-items.ensures.value in
    let past : length c.args.part.now ≤ c.loop-byte.byte-index = rw value at c.loop-byte-test.false in
    let all : list_all is_bare_byte c.args.part.now ≡ true =
    sym c.loop-byte.invariant ∙ at_drop_all (list_all is_bare_byte) c.args.part.now c.loop-byte.byte-index past in
    rw (all, c.is_empty.ensures) refl
