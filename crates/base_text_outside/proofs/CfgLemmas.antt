-- Which atom a text names, case by case, and that an atom's text is the one that it was read from.
use Rattle.std.proofs.Common.{◌≡◌, ℕ, ◌+◌, ◌-◌, ◌<◌, List, [], ◌∷◌, ◌++◌, Option, Some, None, length, get_or, take, refl, sym, ap, append_assoc, ◌∙◌, ◌≢◌, arith}
use Rattle.std.proofs.lemmas.Grind.{common_steps}
use Rattle.std.proofs.lemmas.Bool.Decides.{nat_tests}
use Rattle.std.proofs.lemmas.List.{take_more}
use Rattle.std.specs.Prelude.{IfSome, IsErrAnd, IsErrOf, MatchOption, Result, Ok, Err, ◌↔◌}
use Rattle.std.specs.Option.{option_copied}
use Rattle.std.specs.Borrow.{Bor}
use Rattle.std.specs.List.{before_first, after_first, position_or_len}
use Rattle.base_text_outside.specs.declared.cfg.CfgAtom.{CfgAtom}
use Rattle.base_text_outside.specs.declared.cfg.CfgAtom.TheVariants.{Flag, KeyValue}
use Rattle.base_text_outside.specs.declared.cfg.CfgError.{CfgError}
use Rattle.base_text_outside.specs.declared.cfg.CfgError.TheVariants.{BadCfg, OutOfMemory}
use Rattle.base_text_outside.specs.Cfg.{is_equals, unquote, atom_of, atom_text}
use Rattle.base_values.proofs.Basics.{list_any-position}

unquote-between : (value : List ℕ) → unquote (34 ∷ (value ++ 34 ∷ [])) ≡ Some value
unfolding unquote
unquote-between value = grind (arith, nat_tests, common_steps)

pub unquoted_no_first : (text : List ℕ) → ((rest : List ℕ) → text ≢ 34 ∷ rest) → unquote text ≡ None
unfolding unquote
unquoted_no_first [] never = refl
unquoted_no_first (b ∷ rest) never =
    let other : b ≢ 34 = λ same. never rest (ap (λ x. x ∷ rest) same) in
    grind (arith, nat_tests, common_steps)

pub with_last : (text : List ℕ) (b : ℕ) → 0 < b → get_or text (length text - 1) 0 ≡ b → text ≡ take (length text - 1) text ++ b ∷ []
with_last [] b some is = absurd (omega arith)
with_last (x ∷ rest) b some is =
    let more = take_more (x ∷ rest) (length rest) 0 (omega arith) in
    grind (arith, common_steps)

unquoted_no_last : (rest : List ℕ) → ((front : List ℕ) → rest ≢ front ++ 34 ∷ []) → unquote (34 ∷ rest) ≡ None
unfolding unquote
unquoted_no_last rest never =
    let other : get_or rest (length rest - 1) 0 ≢ 34 = λ same. never (take (length rest - 1) rest) (with_last rest 34 (omega arith) same) in
    grind (arith, nat_tests, common_steps)

atom_of-flag : (text : List ℕ) → position_or_len is_equals text ≡ length text → atom_of text ≡ Some (Flag text)
unfolding atom_of
atom_of-flag text none = rw list_any-position (grind (arith, nat_tests))

atom_of-key : (text value : List ℕ) → position_or_len is_equals text < length text → unquote (after_first is_equals text) ≡ Some value
    → atom_of text ≡ Some (KeyValue (before_first is_equals text) value)
unfolding atom_of
atom_of-key text value some quoted = rw (list_any-position, quoted) (grind (arith, nat_tests))

atom_of-bad : (text : List ℕ) → position_or_len is_equals text < length text → unquote (after_first is_equals text) ≡ None → atom_of text ≡ None
unfolding atom_of
atom_of-bad text some bad = rw (list_any-position, bad) (grind (arith, nat_tests))

-- what is cut off a text's two ends, the first of which was a quote
pub unquote-cut : (text after : List ℕ) (r : Option (Bor (List ℕ))) → text ≡ 34 ∷ after
    → MatchOption r ((front : List ℕ) → after ≢ front ++ 34 ∷ []) (λ x. after ≡ x.now ++ 34 ∷ [])
    → (option_copied r ≡ unquote text) × IfSome r (λ value. text ≡ 34 ∷ (value.now ++ 34 ∷ []))
unquote-cut text after None first cases = (sym (ap unquote first ∙ unquoted_no_last after cases), tt)
unquote-cut text after (Some x) first cases =
    let whole : text ≡ 34 ∷ (x.now ++ 34 ∷ []) = first ∙ ap (λ rest. 34 ∷ rest) cases in
    (sym (ap unquote whole ∙ unquote-between x.now), whole)

-- a name that a text without a `=` gave is the flag that the text names, and so is its own text
pub names_flag : (text name : List ℕ) → position_or_len is_equals text ≡ length text → name ≡ text
    → (atom_of text ≡ Some (Flag name)) × (atom_of (atom_text (Flag name)) ≡ Some (Flag name))
unfolding atom_text
names_flag text name none same =
    let is : atom_of text ≡ Some (Flag name) = atom_of-flag text none ∙ ap (λ n. Some (Flag n)) (sym same) in
    (is, ap atom_of same ∙ is)

-- the parts of a text round its first `=` before which no `=` stands
pub record SplitsAtEquals (text key quoted : List ℕ) : Type 0 where
  pub within : position_or_len is_equals text < length text
  pub before : key ≡ before_first is_equals text
  pub after : quoted ≡ after_first is_equals text
  pub whole : text ≡ key ++ 61 ∷ quoted

-- a key and a value that such a text gave are the atom that the text names, and so is its own text
pub names_key : (text key quoted value : List ℕ) → SplitsAtEquals text key quoted → Some value ≡ unquote quoted → quoted ≡ 34 ∷ (value ++ 34 ∷ [])
    → (k v : List ℕ) → k ≡ key → v ≡ value
    → (atom_of text ≡ Some (KeyValue k v)) × (atom_of (atom_text (KeyValue k v)) ≡ Some (KeyValue k v))
unfolding atom_text
names_key text key quoted value at found between k v same_key same_value =
    let is : atom_of text ≡ Some (KeyValue k v) =
    atom_of-key text value at.within (ap unquote (sym at.after) ∙ sym found) ∙ (λ i. Some (KeyValue ((sym (same_key ∙ at.before)) i) (sym same_value i))) in
    let again : atom_text (KeyValue k v) ≡ text = rw (same_key, same_value, at.whole, between) (simp append_assoc) in
    (is, ap atom_of again ∙ is)

-- such a text names no atom where its second part stands in no quotes
pub names_none : (text key quoted : List ℕ) → SplitsAtEquals text key quoted → None ≡ unquote quoted → atom_of text ≡ None
names_none text key quoted at bad = atom_of-bad text at.within (ap unquote (sym at.after) ∙ sym bad)

-- out of memory is not reported as a bad text, and a text that names an atom is none
pub not_bad : (text : List ℕ) (atom : CfgAtom) (r : Result CfgAtom CfgError)
    → atom_of text ≡ Some atom → IsErrAnd r (λ e. e ≡ OutOfMemory) → IsErrOf r BadCfg ↔ (atom_of text ≡ None)
not_bad text atom (Ok x) named memory = absurd memory
not_bad text atom (Err e) named memory = (λ h. cc, λ h. cc)
