use Rattle.std.proofs.Common.{◌≡◌, ◌<◌, length, lit<, arith, sym}
use Rattle.std.proofs.lemmas.Str.Pattern.{split_once_first}
use Rattle.live_config.proofs.ValueLemmas.{variable_of-cut, variable_of-nameless, variable_of-uncut}
use Rattle.live_config.proofs.values.variable_of.Goals as goal

pub returns-in_err-name : goal.returns-in_err-name
returns-in_err-name c =
    let none = rw c.in_err-name.was at (split_once_first 61 _ _ c.split_once.ensures.cases (lit< tt)) in
    rw c.from_residual.ensures (sym (variable_of-uncut c.args.text.now none))

pub returns-then-is_empty : goal.returns-then-is_empty
returns-then-is_empty c =
    let cut = rw c.in_ok-name.was at (split_once_first 61 _ _ c.split_once.ensures.cases (lit< tt)) in
    let empty : length c.in_ok-name.name.now ≡ 0 = grind (arith, c.if-is_empty.ensures) in
    sym (variable_of-nameless c.args.text.now c.in_ok-name.name.now cut.1 empty)

pub returns : goal.returns
returns c =
    let cut = rw c.in_ok-name.was at (split_once_first 61 _ _ c.split_once.ensures.cases (lit< tt)) in
    let some : 0 < length c.in_ok-name.name.now = grind (arith, c.if-is_empty.ensures) in
    sym (variable_of-cut c.args.text.now c.in_ok-name.name.now c.in_ok-name.value.now cut.0 cut.1 cut.2 some)
