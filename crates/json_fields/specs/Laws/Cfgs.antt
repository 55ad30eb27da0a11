-- an atom of conditional compilation is read again from its text, which is the text that it was read from
use Rattle.std.proofs.Common.{◌≡◌, ◌∙◌, ◌≤◌, ◌+◌, ◌-◌, ◌||◌, not, ℕ, suc, List, [], ◌∷◌, ◌++◌, Bool, true, false, cond, length, get_or, take, drop, Option, Some, None, Ok, refl, sym, ap, arith, append_assoc}
use Rattle.std.proofs.lemmas.Bool.{eqb-true}
use Rattle.std.proofs.lemmas.Bool.Decides.{nat_tests}
use Rattle.std.specs.List.{after_first, before_first, list_any, position_or_len}
use Rattle.std.specs.Prelude.{slice_range}
use Rattle.std.specs.Option.{option_map}
use Rattle.std.specs.Result.{IfOk}
use Rattle.base_text_outside.proofs.CfgLemmas.{with_last}
use Rattle.base_text_outside.specs.Cfg.{atom_of, is_equals, atom_text, unquote}
use Rattle.base_text_outside.specs.declared.cfg.CfgAtom.{CfgAtom}
use Rattle.base_text_outside.specs.declared.cfg.CfgAtom.TheVariants.{Flag, KeyValue}
use Rattle.json_fields.specs.Cfg.{cfg_at, cfg_data, cfg_of, named_or_missed}
use Rattle.json_fields.specs.Laws.ReadAgain.{read-as}
use Rattle.json_fields.specs.Laws.TextForms.{text_form-round_trips}
use Rattle.json_fields.specs.RoundTrip.{RoundTrips}

-- a cut that is one byte further into a text with one byte more
cut_further : (b : ℕ) (rest : List ℕ) (n : ℕ)
    → take (1 + n) (b ∷ rest) ++ 61 ∷ drop (1 + n + 1) (b ∷ rest)
    ≡ b ∷ (take n rest ++ 61 ∷ drop (n + 1) rest)
cut_further b rest n =
    let front : 1 + n ≡ suc n = omega arith in
    let back : 1 + n + 1 ≡ suc (n + 1) = omega arith in
    λ i. take (front i) (b ∷ rest) ++ 61 ∷ drop (back i) (b ∷ rest)

-- a text with a `=` is what stands before the first one, the `=`, and what stands after it
split_at_equals : (text : List ℕ) → list_any is_equals text ≡ true
    → text ≡ before_first is_equals text ++ 61 ∷ after_first is_equals text
split_at_equals [] some = cc
split_at_equals (b ∷ rest) some = at_first (is_equals b) refl some (split_at_equals rest)
  where
    at_first : (same : Bool) → is_equals b ≡ same → (same || list_any is_equals rest) ≡ true
        → (list_any is_equals rest ≡ true
        → rest ≡ before_first is_equals rest ++ 61 ∷ after_first is_equals rest)
        → b ∷ rest
        ≡ take (cond (not same) (1 + position_or_len is_equals rest) 0) (b ∷ rest)
        ++ 61 ∷ drop (cond (not same) (1 + position_or_len is_equals rest) 0 + 1) (b ∷ rest)
    at_first true same h later = ap (λ x. x ∷ rest) (eqb-true b 61 same)
    at_first false same h later =
        ap (λ xs. b ∷ xs) (later h) ∙ sym (cut_further b rest (position_or_len is_equals rest))

-- a value that is there under a test passed the test
when_true : (test : Bool) (x y : List ℕ) → cond test (Some x) None ≡ Some y → (test ≡ true) × (x ≡ y)
when_true true x y is = (refl, cc)
when_true false x y is = cc

-- what stands between quotes has a quote on each side
between_quotes : (text value : List ℕ) → unquote text ≡ Some value → text ≡ 34 ∷ (value ++ 34 ∷ [])
unfolding unquote
between_quotes [] value is = cc
between_quotes (b ∷ rest) value is =
    let both = when_true _ (slice_range (b ∷ rest) 1 (length (b ∷ rest) - 1)) value is in
    let long : 2 ≤ length (b ∷ rest) = grind (arith, nat_tests, both.0) in
    let front : b ≡ 34 = grind (arith, nat_tests, both.0) in
    let back : get_or rest (length rest - 1) 0 ≡ 34 = grind (arith, nat_tests, both.0) in
    let whole = with_last rest 34 (omega arith) back in
    let inner : take (length rest - 1) rest ≡ value = ap (λ n. take n rest) (omega arith) ∙ both.1 in
    rw (front, whole, inner) refl

-- the text of the atom that a text names is that text
text_of-named : (text : List ℕ) (atom : CfgAtom) → atom_of text ≡ Some atom → atom_text atom ≡ text
unfolding atom_of atom_text
text_of-named text atom is = by_equals (list_any is_equals text) refl is
  where
    by_quotes : (o : Option (List ℕ)) → list_any is_equals text ≡ true
        → unquote (after_first is_equals text) ≡ o
        → option_map (λ value. KeyValue (before_first is_equals text) value) o ≡ Some atom
        → atom_text atom ≡ text
    by_quotes None some quoted named = cc
    by_quotes (Some value) some quoted named =
        let keyed : atom ≡ KeyValue (before_first is_equals text) value = cc in
        let printed : atom_text (KeyValue (before_first is_equals text) value) ≡ before_first is_equals text ++ 61 ∷ 34 ∷ (value
        ++ 34 ∷ []) =
        simp append_assoc in
        ap atom_text keyed ∙ printed
        ∙ ap (λ after. before_first is_equals text ++ 61 ∷ after) (sym (between_quotes _ value quoted))
        ∙ sym (split_at_equals text some)

    by_equals : (some : Bool) → list_any is_equals text ≡ some
        → cond some
        (option_map (λ value. KeyValue (before_first is_equals text) value) (unquote (after_first is_equals text)))
        (Some (Flag text))
        ≡ Some atom
        → atom_text atom ≡ text
    by_equals true some named = by_quotes (unquote (after_first is_equals text)) some refl named
    by_equals false none named =
        let flag : atom ≡ Flag text = cc in
        ap atom_text flag

-- an atom is read again from its text
pub cfg_of-again : (text : List ℕ) → IfOk (cfg_of text) (λ atom. cfg_of (atom_text atom) ≡ Ok atom)
unfolding cfg_of
cfg_of-again text = read-as (named_or_missed (atom_of text)) λ atom h.
    ap (λ t. named_or_missed (atom_of t)) (text_of-named text atom (named_as (atom_of text) h)) ∙ h
  where
    named_as : {atom : CfgAtom} (o : Option CfgAtom) → named_or_missed o ≡ Ok atom → o ≡ Some atom
    named_as None h = cc
    named_as (Some found) h = cc

-- atoms of conditional compilation
pub cfg-round_trips : RoundTrips cfg_at cfg_data 0
cfg-round_trips = text_form-round_trips cfg_of atom_text cfg_of-again
