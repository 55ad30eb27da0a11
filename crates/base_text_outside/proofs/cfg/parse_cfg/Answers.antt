use Rattle.std.proofs.Common.{List, ℕ, refl, rules, lit<}
use Rattle.std.proofs.lemmas.Str.Pattern.{split_once_first, split_parts, IsSplitOnceResult}
use Rattle.std.proofs.Common.{◌≡◌}
use Rattle.std.specs.Prelude.{Option, Some}
use Rattle.std.specs.Borrow.{Bor}
use Rattle.base_text_outside.proofs.CfgLemmas.{not_bad, names_flag, names_key, names_none, SplitsAtEquals}
use Rattle.base_text_outside.proofs.cfg.parse_cfg.Goals as goal

splits : (text : List ℕ) (r : Option (Bor (List ℕ) × Bor (List ℕ))) (key quoted : Bor (List ℕ)) → IsSplitOnceResult 61 text r → r ≡ Some (key, quoted)
    → SplitsAtEquals text key.now quoted.now
splits text r key quoted cases is =
    let first = rw is at (split_once_first 61 text r cases (lit< tt)) in
    let parts = rw is at (split_parts 61 text r cases (lit< tt)) in
    record { within = first.0; before = first.1; after = first.2; whole = parts.0 }

pub returns-in_ok-name-in-None : goal.returns-in_ok-name-in-None
returns-in_ok-name-in-None c =
    let none = rw c.in-None.is at (split_once_first 61 _ _ c.split_once.ensures.cases (lit< tt)) in
    let named = names_flag c.args.text.now _ none c.in_ok-name-in-None.ensures in
    record { ok = named.0; bad = search rules; again = named.1 }

pub returns-in-None-unquote-clause-bad : goal.returns-in-None-unquote-clause-bad
returns-in-None-unquote-clause-bad c =
    (λ _. names_none _ _ _ (splits _ _ _ _ c.split_once.ensures.cases c.in-Some.is) c.in-None-unquote.ensures.value, λ _. refl)

pub returns-in_ok-value-in-Some-unquote : goal.returns-in_ok-value-in-Some-unquote
returns-in_ok-value-in-Some-unquote c =
    let at = splits _ _ _ _ c.split_once.ensures.cases c.in-Some.is in
    let in_quotes = c.in-Some-unquote.ensures in
    let named = names_key _ _ _ _ at in_quotes.value in_quotes.between _ _ c.in_ok-key-in-Some-unquote.ensures c.in_ok-value-in-Some-unquote.ensures in
    record { ok = named.0; bad = search rules; again = named.1 }

pub returns-in_err-name-in-None-clause-bad : goal.returns-in_err-name-in-None-clause-bad
returns-in_err-name-in-None-clause-bad c =
    let none = rw c.in-None.is at (split_once_first 61 _ _ c.split_once.ensures.cases (lit< tt)) in
    let named = names_flag c.args.text.now _ none refl in
    not_bad _ _ _ named.0 c.from_residual.ensures.1

pub returns-in_err-key-in-Some-unquote-clause-bad : goal.returns-in_err-key-in-Some-unquote-clause-bad
returns-in_err-key-in-Some-unquote-clause-bad c =
    let at = splits _ _ _ _ c.split_once.ensures.cases c.in-Some.is in
    let in_quotes = c.in-Some-unquote.ensures in
    let named = names_key _ _ _ _ at in_quotes.value in_quotes.between _ _ refl refl in
    not_bad _ _ _ named.0 c.from_residual-in_err-key-in-Some-unquote.ensures.1

pub returns-in_err-value-in-Some-unquote-clause-bad : goal.returns-in_err-value-in-Some-unquote-clause-bad
returns-in_err-value-in-Some-unquote-clause-bad c =
    let at = splits _ _ _ _ c.split_once.ensures.cases c.in-Some.is in
    let in_quotes = c.in-Some-unquote.ensures in
    let named = names_key _ _ _ _ at in_quotes.value in_quotes.between _ _ refl refl in
    not_bad _ _ _ named.0 c.from_residual-in_err-value-in-Some-unquote.ensures.1
